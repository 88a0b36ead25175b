use Rattle.std.proofs.Common.{◌≡◌, ℕ, ◌<◌, slice_index_or}
use Rattle.rewriting.proofs.schedule.are_same_events.Given as goal

abbrev pub invariant-loop-i : goal.invariant-loop-i
invariant-loop-i l = (k : ℕ) (d : _) → k < l.i → slice_index_or l.xs k d ≡ slice_index_or l.ys k d
