use Rattle.std.proofs.Common.{refl}
use Rattle.std.proofs.lemmas.Option.{slice_get_read}
use Rattle.places.proofs.ListLemmas.{updated_set}
use Rattle.live_states.proofs.seat.Seat.alter.Goals as goal

pub returns : goal.returns
returns g c =
    let r = rw (← c.self.view_is) at c.requires in
    let at = slice_get_read c.self.inside.receipts.items _ c.args.place _ refl r c.index_mut.ensures.value in
    rw (← c.self.view_is, updated_set _ _ _ _ at) refl
