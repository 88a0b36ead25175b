use Rattle.std.proofs.Common.{◌≡◌, ◌<◌, ◌≤◌, ◌+◌, ◌-◌, ℕ, length, Some}
use Rattle.std.specs.Prelude.{slice_get}
use Rattle.places.specs.Masked.{is_kept, SameOutside, LeftMark}
use Rattle.places.proofs.notes.clearing.clear_alike.Given as goal

abbrev pub invariant-loop-at : goal.invariant-loop-at
invariant-loop-at l = record {
  within : l.at ≤ l.n;
  len : length l.gone ≡ length l.initial.gone;
  others : SameOutside l.initial.gone l.gone l.mark l.at;
  done : (j b : ℕ) → j < l.at → slice_get l.olds j ≡ Some b → LeftMark (slice_get l.there j) b (is_kept l.initial.gone (l.mark + j)) (is_kept l.gone (l.mark + j));
}

abbrev pub decreases-loop-at : goal.decreases-loop-at
decreases-loop-at l = l.n - l.at
