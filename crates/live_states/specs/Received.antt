-- The receipts that follow from a trace: its events and the actors that made them.
use Rattle.std.specs.Prelude.{◌≡◌, ◌≢◌, ℕ, ◌+◌, ◌<◌, ◌==◌, List, [], ◌∷◌, if◌then◌else◌, length, slice_get, Some}
use Rattle.scenario.specs.declared.event.Event.{Event}
use Rattle.live_states.specs.declared.receipt.Receipt.{Receipt}

abbrev pub receipt : ℕ → ℕ → Event → Receipt
receipt actor moment event = record { actor = actor; moment = moment; event = event }

-- The receipts of an actor for a list of events, the first of which has the given moment, in order.
abbrev pub receipts_from : ℕ → ℕ → List ℕ → List Event → List Receipt
receipts_from actor moment [] es = []
receipts_from actor moment (o ∷ os) [] = []
receipts_from actor moment (o ∷ os) (e ∷ es) =
    if o == actor then receipt actor moment e ∷ receipts_from actor (moment + 1) os es
    else receipts_from actor (moment + 1) os es

-- The receipts of an actor for a whole trace.
abbrev pub receipts_of : ℕ → List ℕ → List Event → List Receipt
receipts_of actor owners events = receipts_from actor 0 owners events

-- Each actor's receipts are exactly its events, in order.
abbrev pub AllReceived : List ℕ → List Event → List (List Receipt) → Type 0
AllReceived owners events lists =
    (a : ℕ) → a < length lists → slice_get lists a ≡ Some (receipts_of a owners events)

-- a is the lowest-numbered actor whose receipts differ from its events.
pub record LeastTorn (owners : List ℕ) (events : List Event) (lists : List (List Receipt)) (a : ℕ) : Type 0 where
  pub within : a < length lists
  pub torn : slice_get lists a ≢ Some (receipts_of a owners events)
  pub least : (b : ℕ) → b < a → slice_get lists b ≡ Some (receipts_of b owners events)

-- The trace has the receipt's event at its moment, made by its actor.
abbrev pub IsOf : List ℕ → List Event → Receipt → Type 0
IsOf owners events r =
    (slice_get owners r.moment ≡ Some r.actor) × (slice_get events r.moment ≡ Some r.event)
