-- Models of a worker, and those of live_states.
use Rattle.std.specs.Prelude.{◌≡◌, ℕ, ◌<◌, List, length, map, slice_index_or, Bool, false, sum_by}
use Rattle.live_states.specs.declared.receipt.Receipt.{Receipt}
pub use Rattle.live_states.specs.History.{History, AllOwn, Replays, Held, Counted, InOrder, opened, with_event, seat_with, altered, Past, Whole, closed_of}

-- A worker. `turns` is the number of turns that it has taken.
pub record WorkerState (G : Type 0) : Type 0 where
  pub seat : Held
  pub gate : G
  pub turns : ℕ
  pub is_stuck : Bool

-- A worker that has taken no turn.
abbrev pub fresh : {G : Type 0} → G → Held → WorkerState G
fresh gate seat = record { seat = seat; gate = gate; turns = 0; is_stuck = false }

-- The workers' receipts, in the workers' order.
abbrev pub all_receipts : {G : Type 0} → List (WorkerState G) → List (List Receipt)
all_receipts {G} workers = map (λ (w : WorkerState G). w.seat.receipts) workers

-- The total number of the workers' receipts.
abbrev pub receipt_count : {G : Type 0} → List (WorkerState G) → ℕ
receipt_count {G} workers = sum_by (λ (w : WorkerState G). length w.seat.receipts) workers

-- Worker i belongs to actor i.
abbrev pub WorkInOrder : {G : Type 0} → List (WorkerState G) → Type 0
WorkInOrder {G} workers =
    (i : ℕ) (d : WorkerState G) → i < length workers → (slice_index_or workers i d).seat.actor ≡ i
