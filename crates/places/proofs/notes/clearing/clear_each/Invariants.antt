use Rattle.std.proofs.Common.{◌≡◌, ◌<◌, ◌+◌, ℕ, length, Some}
use Rattle.std.specs.Prelude.{slice_get}
use Rattle.places.specs.Closed.{LeftOf}
use Rattle.places.specs.Masked.{is_kept, SameOutside, kept_byte}
use Rattle.places.specs.Runs.{place_in}
use Rattle.places.proofs.notes.clearing.clear_each.Given as goal

abbrev pub invariant-loop-i : goal.invariant-loop-i
invariant-loop-i g l = record {
  len : length l.gone ≡ length l.initial.gone;
  others : SameOutside l.initial.gone l.gone l.mark l.i;
  done : (j b : ℕ) → j < l.i → slice_get l.olds j ≡ Some b → LeftOf (g.A.At.seen l.whole (place_in l.region (l.start + j))) (kept_byte (is_kept l.initial.gone (l.mark + j)) b) (kept_byte (is_kept l.gone (l.mark + j)) b);
}
