use Rattle.std.proofs.Common.{◌≡◌, length}
use Rattle.live_runner.specs.History.{InOrder}
use Rattle.allocation_faults.proofs.living.act_first.Given as goal

abbrev pub invariant-loop-event : goal.invariant-loop-event
invariant-loop-event g l =
    (length l.seats.items ≡ length l.initial.seats.items)
    × (l.live.actors ≡ l.initial.live.actors)
    × InOrder l.seats.items
