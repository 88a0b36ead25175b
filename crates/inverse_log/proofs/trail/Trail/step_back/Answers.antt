use Rattle.std.proofs.Common.{◌<◌, ◌-◌, arith, rules}
use Rattle.inverse_log.proofs.Keeping.{step_before, record_there, keeps_back}
use Rattle.machine.specs.Runs.{moment}
use Rattle.inverse_log.proofs.trail.Trail.step_back.Goals as goal

pub index-requires : goal.index-requires
index-requires c =
    let some : 0 < c.self.inside.at = search rules in
    let there = record_there _ _ _ _ _ _ c.self.invariant some in
    omega (arith, there, c.self.inside.records.ok.0)

pub put_back-requires : goal.put_back-requires
put_back-requires c =
    let some : 0 < c.self.inside.at = search rules in
    let b = step_before _ _ _ _ _ _ c.index.result.now c.self.invariant some c.index.ensures in
    (moment c.self.inside.setup c.self.inside.events.items (c.self.inside.at - 1), b.event, b.link)

pub invariant_of-self : goal.invariant_of-self
invariant_of-self c =
    let some : 0 < c.self.inside.at = search rules in
    let b = step_before _ _ _ _ _ _ c.index.result.now c.self.invariant some c.index.ensures in
    keeps_back _ _ _ _ _ _ _ _ c.self.invariant (c.put_back.ensures.back _ _ b.link) c.tallied-self-inside.type_inv
