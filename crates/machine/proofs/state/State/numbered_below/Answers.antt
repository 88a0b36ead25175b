use Rattle.machine.proofs.Common.{arith, subst, view}
use Rattle.machine.proofs.Extents.{numbered_below}
use Rattle.machine.specs.Extents.{IsNumberedBelow}
use Rattle.machine.proofs.state.State.numbered_below.Goals as goal

pub returns-clause-absent : goal.returns-clause-absent
returns-clause-absent c =
    let n = c.max-2.result in
    let below = numbered_below c.self.inside.machine n c.self.invariant.0 (omega arith) (omega arith) (omega arith) in
    subst (λ m. IsNumberedBelow (view m) n) c.self.view_is below
