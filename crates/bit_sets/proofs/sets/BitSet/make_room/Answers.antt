use Rattle.bit_sets.proofs.Numbers.{has_grown}
use Rattle.bit_sets.proofs.sets.BitSet.make_room.Goals as goal

pub returns-in_ok-push-clause-has : goal.returns-in_ok-push-clause-has
returns-in_ok-push-clause-has c = λ i. rw (c.in_ok-push.ensures.items, ← c.self.view_is) (has_grown c.self.inside.words.items i)
