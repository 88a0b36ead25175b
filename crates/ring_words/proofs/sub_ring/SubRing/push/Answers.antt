use Rattle.ring_words.proofs.Common.{◌≡◌, refl, length, ◌<◌, ◌%◌, arith, slice_get_read, keeps_noted, keeps_then, sub_list}
use Rattle.ring_words.proofs.{Order.list_back, Sizes.size_divides, Sizes.size_some, Seen.sub_seen_tail, Seen.sub_seen_word}
use Rattle.ring_words.proofs.sub_ring.SubRing.push.Goals as goal

-- The word is recorded and written, then the tail.
pub returns-clause-keeps : goal.returns-clause-keeps
returns-clause-keeps c =
    let same : c.len.result ≡ length c.self.inside.array = c.len.ensures in
    let within : c.self.inside.tail % c.len.result < c.len.result = omega (arith, (size_some c.self.invariant.size), same) in
    let inside : c.self.inside.tail % c.len.result < length c.self.inside.array = omega (arith, same, within) in
    let before = slice_get_read _ _ _ _ same within c.index.ensures in
    rw (← c.self.view_is, c.set.ensures)
    (keeps_then _ _ _ _ _ _ _
    (keeps_noted _ _ _ _ _ _ _ refl (rw before c.note_word.ensures.noted) (sub_seen_word _ _ _ inside))
    (keeps_noted _ _ _ _ _ _ _ refl c.note_word-2.ensures.noted (sub_seen_tail _ _)))

pub returns-clause-list : goal.returns-clause-list
unfolding sub_list
returns-clause-list c =
    let same : c.len.result ≡ length c.self.inside.array = c.len.ensures in
    let free = rw (← c.self.view_is) at c.requires.free in
    let most = c.self.invariant.size.most in
    let list = list_back c.self.inside.array c.self.inside.head c.self.inside.tail c.args.index (size_some c.self.invariant.size) (omega (arith, most)) (size_divides 4096 _ c.self.invariant.size) (omega arith) (omega arith) free in
    rw (← c.self.view_is, c.set.ensures, same) list
