use Rattle.ring_words.proofs.Common.{refl, ◌<◌, ◌%◌, length, arith, slice_get-get_or, keeps_noted, keeps_then, sub_list}
use Rattle.ring_words.proofs.{Order.list_front, Sizes.size_divides, Sizes.size_some, Seen.sub_seen_head, Seen.sub_seen_dropped}
use Rattle.ring_words.proofs.sub_ring.SubRing.take.Goals as goal

pub returns-then-index-len-clause-keeps : goal.returns-then-index-len-clause-keeps
returns-then-index-len-clause-keeps c = rw (← c.self.view_is) (keeps_noted _ _ _ _ _ _ _ refl c.note_word.ensures.noted (sub_seen_head _ _))

pub returns-then-index-len-clause-list : goal.returns-then-index-len-clause-list
unfolding sub_list
returns-then-index-len-clause-list c =
    let within : c.self.inside.head % length c.self.inside.array < length c.self.inside.array = omega (arith, (size_some c.self.invariant.size)) in
    let some = rw (← c.self.view_is) at c.requires.some in
    rw (← c.self.view_is) (list_front _ _ _ _ (size_divides 4096 _ c.self.invariant.size) (omega arith) (omega arith) some (slice_get-get_or c.self.inside.array _ 0 within))

pub returns-clause-keeps : goal.returns-clause-keeps
returns-clause-keeps c =
    rw (← c.self.view_is)
    (keeps_then _ _ _ _ _ _ _
    (keeps_noted _ _ _ _ _ _ _ refl c.note_word.ensures.noted (sub_seen_head _ _))
    (keeps_noted _ _ _ _ _ _ _ refl c.note_word-2.ensures.noted (sub_seen_dropped _ _)))

pub returns-clause-list : goal.returns-clause-list
unfolding sub_list
returns-clause-list c =
    let within : c.self.inside.head % length c.self.inside.array < length c.self.inside.array = omega (arith, (size_some c.self.invariant.size)) in
    let some = rw (← c.self.view_is) at c.requires.some in
    rw (← c.self.view_is) (list_front _ _ _ _ (size_divides 4096 _ c.self.invariant.size) (omega arith) (omega arith) some (slice_get-get_or c.self.inside.array _ 0 within))
