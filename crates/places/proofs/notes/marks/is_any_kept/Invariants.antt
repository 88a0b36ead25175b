use Rattle.std.proofs.Common.{◌≡◌, ◌<◌, ℕ, false}
use Rattle.places.specs.Masked.{is_kept}
use Rattle.places.proofs.notes.marks.is_any_kept.Given as goal

abbrev pub invariant-loop-i : goal.invariant-loop-i
invariant-loop-i l = (q : ℕ) → q < l.i → is_kept l.gone q ≡ false
