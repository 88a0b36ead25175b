use Rattle.ring_words.proofs.Common.{refl, ◌≤◌, arith, keeps_noted, keeps_then, sub_list, waiting}
use Rattle.ring_words.proofs.{Order.list_after, Sizes.size_divides, Sizes.size_some, Seen.sub_seen_head, Seen.sub_seen_dropped, Laws.sub_length}
use Rattle.ring_words.proofs.sub_ring.SubRing.take_first.Goals as goal

pub returns-then-dropped-eq0-clause-keeps : goal.returns-then-dropped-eq0-clause-keeps
returns-then-dropped-eq0-clause-keeps c =
    rw (← c.self.view_is) (keeps_noted _ _ _ _ _ _ _ refl c.note_word.ensures.noted (sub_seen_head _ _))

pub returns-then-dropped-eq0-clause-list : goal.returns-then-dropped-eq0-clause-list
unfolding sub_list
returns-then-dropped-eq0-clause-list c =
    let listed = rw (← c.self.view_is) at c.requires.some in
    let some : c.args.count ≤ waiting c.self.inside.head c.self.inside.tail = omega (arith, listed, sub_length _ c.self.invariant) in
    rw (← c.self.view_is) (list_after _ _ _ _ (size_some c.self.invariant.size) (size_divides 4096 _ c.self.invariant.size) (omega arith) (omega arith) some)

pub returns-clause-keeps : goal.returns-clause-keeps
returns-clause-keeps c =
    rw (← c.self.view_is)
    (keeps_then _ _ _ _ _ _ _
    (keeps_noted _ _ _ _ _ _ _ refl c.note_word.ensures.noted (sub_seen_head _ _))
    (keeps_noted _ _ _ _ _ _ _ refl c.note_word-2.ensures.noted (sub_seen_dropped _ _)))

pub returns-clause-list : goal.returns-clause-list
unfolding sub_list
returns-clause-list c =
    let listed = rw (← c.self.view_is) at c.requires.some in
    let some : c.args.count ≤ waiting c.self.inside.head c.self.inside.tail = omega (arith, listed, sub_length _ c.self.invariant) in
    rw (← c.self.view_is) (list_after _ _ _ _ (size_some c.self.invariant.size) (size_divides 4096 _ c.self.invariant.size) (omega arith) (omega arith) some)
