use Rattle.std.proofs.Common.{◌≡◌, ℕ, ◌+◌, ◌<◌, length, slice_index_or, vec_len}
use Rattle.std.specs.Prelude.{All}
use Rattle.std.specs.Vec.Iter.{into_iter_items}
use Rattle.live_runner.specs.History.{WorkInOrder}
use Rattle.live_runner.specs.Running.{AllOfTurns}
use Rattle.live_runner.specs.Turns.{HasWorked}
use Rattle.live_runner.proofs.running.join_all.Given as goal

abbrev pub invariant-loop-handle : goal.invariant-loop-handle
invariant-loop-handle g l =
    let rest = into_iter_items l.handle-iterator in
    ((k : ℕ) (d : _) → k < length rest → (slice_index_or rest k d).promise.actor ≡ vec_len l.workers + k)
    × WorkInOrder l.workers.items
    × ((n : ℕ) → AllOfTurns l.gate n l.fn.handles.items
    → AllOfTurns l.gate n rest × All (HasWorked g.G.Gate.opens g.G.Gate.shuts l.gate n) l.workers.items)
