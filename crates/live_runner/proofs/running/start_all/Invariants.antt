use Rattle.std.proofs.Common.{◌≡◌, ℕ, ◌+◌, ◌<◌, ◌≤◌, [], length, slice_index_or, vec_len, vec_capacity}
use Rattle.std.specs.Prelude.{All}
use Rattle.std.specs.Vec.Iter.{into_iter_items}
use Rattle.live_states.specs.History.{Held}
use Rattle.live_runner.specs.Running.{HandlesInOrder, AllOfTurns}
use Rattle.live_runner.proofs.running.start_all.Given as goal

abbrev pub invariant-loop-seat : goal.invariant-loop-seat
invariant-loop-seat g l =
    let rest = into_iter_items l.seat-iterator in
    ((k : ℕ) (d : Held) → k < length rest → (slice_index_or rest k d).actor ≡ vec_len l.handles + k)
    × All (λ (s : Held). s.receipts ≡ []) rest
    × HandlesInOrder l.handles.items
    × AllOfTurns l.gate l.turns l.handles.items
    × (vec_len l.handles + length rest ≤ vec_capacity l.handles)
