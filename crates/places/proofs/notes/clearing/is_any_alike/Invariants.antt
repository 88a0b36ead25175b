use Rattle.std.proofs.Common.{◌≡◌, ◌≢◌, ◌<◌, ◌≤◌, ℕ, false, Some}
use Rattle.std.specs.Prelude.{slice_get}
use Rattle.places.proofs.notes.clearing.is_any_alike.Given as goal

abbrev pub invariant-loop-i : goal.invariant-loop-i
invariant-loop-i l = l.found ≡ false → (j b : ℕ) → l.at ≤ j → j < l.i → slice_get l.olds j ≡ Some b → slice_get l.there j ≢ Some b
