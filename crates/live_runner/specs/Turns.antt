-- The effect of one turn, and of all turns of a worker, of an actor and of a closed run.
use Rattle.std.specs.Prelude.{◌≡◌, ◌<◌, ◌≤◌, ◌+◌, ℕ, Bool, true, false, List, length, slice_get, Some}
use Rattle.live_states.specs.declared.receipt.Receipt.{Receipt}
use Rattle.live_states.specs.History.{Held, Past, seat_with}
use Rattle.live_runner.specs.declared.worker.Turn.{Turn}
use Rattle.live_runner.specs.declared.worker.Turn.TheVariants.{Did, Idle, Refused, Stuck}
use Rattle.live_runner.specs.History.{WorkerState}

-- The seat after a turn.
abbrev pub seat_after : Held → Turn → Held
seat_after s (Did r) = seat_with s r
seat_after s Idle = s
seat_after s (Refused x) = s
seat_after s Stuck = s

-- An actor was to take n turns at gate g, `taken` of which it began. The gate opened for the first
-- `turns` ones, and the actor made no more events than that. If the gate stayed shut for the next
-- one, the actor is stuck; else it took all n.
pub record HasPassed {G : Type 0} (opens shuts : G → ℕ → ℕ → Type 0) (g : G) (actor n taken events : ℕ) (is_stuck : Bool) : Type 0 where
  pub turns : ℕ
  pub most : turns ≤ n
  pub opened : (k : ℕ) → 0 < k → k ≤ turns → opens g actor k
  pub made : events ≤ turns
  pub whole : is_stuck ≡ false → (turns ≡ n) × (taken ≡ n)
  pub shut : is_stuck ≡ true → shuts g actor (turns + 1) × (taken ≡ turns + 1)

-- The same of a worker, each of whose events has a receipt.
abbrev pub HasWorked : {G : Type 0} → (G → ℕ → ℕ → Type 0) → (G → ℕ → ℕ → Type 0) → G → ℕ
    → WorkerState G → Type 0
HasWorked {G} opens shuts g n w =
    HasPassed opens shuts g w.seat.actor n w.turns (length w.seat.receipts) w.is_stuck

-- Each actor of a closed run made no more events than some number of first turns, at most n, and
-- gate g opened for each of these.
abbrev pub AllPassed : {G : Type 0} → (G → ℕ → ℕ → Type 0) → G → ℕ → Past → Type 0
AllPassed {G} opens g n c =
    (a : ℕ) (rs : List Receipt) → slice_get c.receipts a ≡ Some rs
    → (turns : ℕ) × (turns ≤ n) × (length rs ≤ turns)
    × ((k : ℕ) → 0 < k → k ≤ turns → opens g a k)
