use Rattle.std.proofs.Common.{◌≡◌, length}
use Rattle.live_runner.specs.Turns.{HasPassed}
use Rattle.live_runner.proofs.running.work.Given as goal

abbrev pub invariant-loop-turn : goal.invariant-loop-turn
invariant-loop-turn g l =
    (l.worker.seat.actor ≡ l.fn.seat.actor)
    × (l.worker.gate ≡ l.gate)
    × HasPassed g.G.Gate.opens g.G.Gate.shuts l.gate l.fn.seat.actor l._turn l.worker.turns (length l.worker.seat.receipts) l.worker.is_stuck
