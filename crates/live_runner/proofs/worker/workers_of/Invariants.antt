use Rattle.std.proofs.Common.{◌≡◌, ℕ, ◌+◌, ◌++◌, ◌<◌, ◌≤◌, length, map, slice_index_or, vec_len, vec_capacity}
use Rattle.std.specs.Vec.Iter.{into_iter_items}
use Rattle.live_states.specs.History.{Held}
use Rattle.live_runner.specs.History.{WorkInOrder, fresh}
use Rattle.live_runner.proofs.worker.workers_of.Given as goal

abbrev pub invariant-loop-seat : goal.invariant-loop-seat
invariant-loop-seat g l =
    let rest = into_iter_items l.seat-iterator in
    ((k : ℕ) (d : Held) → k < length rest → (slice_index_or rest k d).actor ≡ vec_len l.workers + k)
    × WorkInOrder l.workers.items
    × (l.workers.items ++ map (fresh l.gate) rest ≡ map (fresh l.gate) l.fn.seats.items)
    × (vec_len l.workers + length rest ≡ vec_len l.fn.seats)
    × (vec_len l.workers + length rest ≤ vec_capacity l.workers)
