use Rattle.places.proofs.Naming.{once_more}
use Rattle.places.proofs.notes.odd.Odd.push.Goals as goal

pub invariant_of-self : goal.invariant_of-self
invariant_of-self c = rw (c.push_reserved.ensures.items) (once_more _ _ c.self.invariant (rw (← c.self.view_is) at c.requires.fresh))
