use Rattle.std.proofs.Common.{rules}
use Rattle.places.proofs.Kept.{kept_filtered}
use Rattle.places.proofs.notes.slots.drop_same_notes.Goals as goal

pub returns : goal.returns
returns g c = (kept_filtered g.N.Slotted.change _ _ _ (λ x b f' k. search rules) _ _ c.retain.ensures.filtered)
