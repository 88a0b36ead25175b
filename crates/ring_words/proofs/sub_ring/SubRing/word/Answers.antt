use Rattle.ring_words.proofs.Common.{◌≡◌, sym, ◌∙◌, ap, ◌<◌, ◌+◌, ◌%◌, ◌^◌, length, arith, slice_get, mod-mod_of_dvd, slice_get_read, sub_list, waiting}
use Rattle.ring_words.proofs.{Order.items_get, Sizes.size_divides, Sizes.size_some, Laws.sub_length}
use Rattle.ring_words.proofs.sub_ring.SubRing.word.Goals as goal

pub returns : goal.returns
unfolding sub_list
returns c =
    let same : c.len.result ≡ length c.self.inside.array = c.len.ensures in
    let within : (c.self.inside.head + c.args.i) % 2 ^ 32 % c.len.result < c.len.result = omega (arith, (size_some c.self.invariant.size), same) in
    let listed = rw (← c.self.view_is) at c.requires in
    let some : c.args.i < waiting c.self.inside.head c.self.inside.tail = omega (arith, listed, sub_length _ c.self.invariant) in
    let here = rw same at (slice_get_read _ _ _ _ same within c.index.ensures) in
    let place = mod-mod_of_dvd (length c.self.inside.array) (c.self.inside.head + c.args.i) (size_divides 4096 _ c.self.invariant.size) in
    rw (← c.self.view_is) (items_get c.self.inside.array c.self.inside.head _ c.args.i (size_some c.self.invariant.size) some ∙ ap (slice_get c.self.inside.array) (sym place) ∙ here)
