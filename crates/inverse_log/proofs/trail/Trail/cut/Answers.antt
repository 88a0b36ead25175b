use Rattle.std.proofs.Common.{◌≤◌, rules}
use Rattle.inverse_log.proofs.Keeping.{keeps_cut}
use Rattle.inverse_log.proofs.trail.Trail.cut.Goals as goal

pub invariant_of-self : goal.invariant_of-self
invariant_of-self c =
    let before : c.self.inside.at ≤ c.args.len = search rules in
    keeps_cut _ _ _ _ _ _ _ _ c.args.len c.self.invariant before c.truncate.ensures.items c.truncate-2.ensures.items
