use Rattle.std.proofs.Common.{◌≡◌, ◌<◌, ◌≤◌, ◌+◌, ◌-◌, ℕ, length, Some}
use Rattle.std.specs.Prelude.{slice_get}
use Rattle.places.specs.Masked.{is_kept, SameOutside, LeftMark}
use Rattle.places.proofs.notes.clearing.clear_between.Given as goal

abbrev pub invariant-loop-i : goal.invariant-loop-i
invariant-loop-i l = record {
  len : length l.gone ≡ length l.initial.gone;
  others : SameOutside l.initial.gone l.gone (l.mark + l.at) (l.i - l.at);
  done : (j b : ℕ) → l.at ≤ j → j < l.i → slice_get l.olds j ≡ Some b → LeftMark (slice_get l.there j) b (is_kept l.initial.gone (l.mark + j)) (is_kept l.gone (l.mark + j));
}
