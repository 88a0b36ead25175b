use Rattle.machine.proofs.Common.{sym, subst, WellFormed}
use Rattle.machine.proofs.Linking.{goes_back}
use Rattle.machine.proofs.state.State.put_back.Goals as goal

pub restore-requires : goal.restore-requires
restore-requires c =
    rw c.self.view_is (c.requires.0, goes_back _ _ _ _ c.requires.2)

pub invariant_of-self : goal.invariant_of-self
invariant_of-self c =
    let g = goes_back _ _ _ _ c.requires.2 in
    let back = rw c.self.view_is at c.restore.ensures.back in
    (subst WellFormed (sym (back c.requires.0 g)) g.formed, c.self.invariant.1)

pub returns-clause-back : goal.returns-clause-back
returns-clause-back c s e h =
    let back = rw c.self.view_is at c.restore.ensures.back in
    back s (goes_back _ _ _ _ h)
