use Rattle.std.proofs.Common.{◌<◌, length, rules}
use Rattle.inverse_log.proofs.Keeping.{keeps_on}
use Rattle.inverse_log.proofs.trail.Trail.step_on.Goals as goal

pub invariant_of-self : goal.invariant_of-self
invariant_of-self c =
    let before : c.self.inside.at < length c.self.inside.events.items = search rules in
    keeps_on _ _ _ _ _ _ _ _ _ c.self.invariant before c.index-event.ensures c.in-Ok.ensures.next c.tallied-self-inside.type_inv
