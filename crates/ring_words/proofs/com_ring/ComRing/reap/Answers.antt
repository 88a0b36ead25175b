use Rattle.ring_words.proofs.Common.{◌≡◌, refl, ◌<◌, ◌%◌, length, arith, slice_get_read, keeps_noted, com_list}
use Rattle.ring_words.proofs.{Order.list_front, Sizes.size_divides, Sizes.size_some, Seen.com_seen_head}
use Rattle.ring_words.proofs.com_ring.ComRing.reap.Goals as goal

pub returns-clause-keeps : goal.returns-clause-keeps
returns-clause-keeps c = rw (← c.self.view_is) (keeps_noted _ _ _ _ _ _ _ refl c.note_word.ensures.noted (com_seen_head _ _))

pub returns-clause-list : goal.returns-clause-list
unfolding com_list
returns-clause-list c =
    let same : c.len.result ≡ length c.self.inside.slots = c.len.ensures in
    let within : c.self.inside.head % c.len.result < c.len.result = omega (arith, (size_some c.self.invariant.size), same) in
    let here = rw same at (slice_get_read _ _ _ _ same within c.index-completion.ensures) in
    let some = rw (← c.self.view_is) at c.requires.some in
    rw (← c.self.view_is) (list_front _ _ _ _ (size_divides 8192 _ c.self.invariant.size) (omega arith) (omega arith) some here)
