-- Models of a live run, a seat, a run that is being closed and a closed run.
use Rattle.std.specs.Prelude.{◌≡◌, ℕ, ◌+◌, ◌≤◌, ◌<◌, List, [], ◌∷◌, ◌++◌, length, All, true, slice_index_or, None}
use Rattle.places.specs.declared.value.Change.{Change}
use Rattle.places.specs.Lists.{updated}
use Rattle.scenario.specs.declared.setup.Setup.{Setup}
use Rattle.scenario.specs.declared.event.Event.{Event}
use Rattle.scenario.specs.Setups.{setup_refusal}
use Rattle.machine.specs.declared.whole.Machine.{Machine}
use Rattle.machine.specs.Steps.{after}
use Rattle.machine.specs.Runs.{start, run, Accepts, Linked}
use Rattle.live_states.specs.declared.receipt.Receipt.{Receipt}
use Rattle.live_rules.specs.Actors.{is_own}
use Rattle.live_states.specs.Received.{AllReceived}

-- A live run. `owners` are the actors that made the events, and `total` is the total of the
-- ledger's book.
pub record History : Type 0 where
  pub setup : Setup
  pub actors : ℕ
  pub events : List Event
  pub owners : List ℕ
  pub state : Machine
  pub total : ℕ

-- Each event is one that its actor may make.
abbrev pub AllOwn : Setup → ℕ → List ℕ → List Event → Type 0
AllOwn setup n [] [] = Unit {0}
AllOwn setup n [] (e ∷ es) = ⊥
AllOwn setup n (o ∷ os) [] = ⊥
AllOwn setup n (o ∷ os) (e ∷ es) = (is_own setup n o e ≡ true) × AllOwn setup n os es

-- The setup is valid, the events lead from its start to the state, and the undo records lead back.
-- Each event is one that its actor may make, and the book's total is the number of events.
pub record Replays (h : History) (records : List (List Change)) : Type 0 where
  pub starts : setup_refusal h.setup ≡ None
  pub linked : Linked (start h.setup) h.events records h.state
  pub own : AllOwn h.setup h.actors h.owners h.events
  pub counted : h.total ≡ length h.events
  pub most : length h.events ≤ 1048576

-- A seat: its actor, the receipts that the actor received, and its share of the ledger.
pub record Held : Type 0 where
  pub actor : ℕ
  pub receipts : List Receipt
  pub parts : ℕ
  pub amount : ℕ

-- Each receipt names the seat's actor. The share has one part, whose amount is the number of
-- receipts.
pub record Counted (s : Held) : Type 0 where
  pub own : All (λ (r : Receipt). r.actor ≡ s.actor) s.receipts
  pub one : s.parts ≡ 1
  pub received : s.amount ≡ length s.receipts

-- Seat i belongs to actor i.
abbrev pub InOrder : List Held → Type 0
InOrder seats = (i : ℕ) (d : Held) → i < length seats → (slice_index_or seats i d).actor ≡ i

-- A run without events.
abbrev pub opened : Setup → ℕ → History
opened setup count =
    record
    { setup = setup; actors = count; events = []; owners = []; state = start setup; total = 0 }

-- The run after one more event, made by `actor`.
abbrev pub with_event : History → ℕ → Event → History
with_event h actor event = record {
  setup = h.setup;
  actors = h.actors;
  events = h.events ++ event ∷ [];
  owners = h.owners ++ actor ∷ [];
  state = after h.state event;
  total = h.total + 1;
}

-- The seat with one more receipt.
abbrev pub seat_with : Held → Receipt → Held
seat_with s r =
    record
    { actor = s.actor; receipts = s.receipts ++ r ∷ []; parts = s.parts; amount = s.amount + 1 }

-- The seat after the event of receipt i was replaced.
abbrev pub altered : Held → ℕ → Event → Held
altered s i e = record {
  actor = s.actor;
  receipts = updated (λ (r : Receipt). record r { event = e }) s.receipts i;
  parts = s.parts;
  amount = s.amount;
}

-- A run that is being closed. `lists` are the receipts that its actors have given back, and `amount`
-- is the amount of their shares.
pub record ClosingState : Type 0 where
  pub run : History
  pub lists : List (List Receipt)
  pub amount : ℕ

-- A closed run.
pub record Past : Type 0 where
  pub setup : Setup
  pub actors : ℕ
  pub events : List Event
  pub owners : List ℕ
  pub state : Machine
  pub receipts : List (List Receipt)

-- The setup is valid, the events are accepted from its start and lead to the state, and each is one
-- that its actor may make. Each actor's receipts are exactly its events with their moments, in
-- order.
pub record Whole (c : Past) : Type 0 where
  pub starts : setup_refusal c.setup ≡ None
  pub most : length c.events ≤ 1048576
  pub accepted : Accepts (start c.setup) c.events
  pub ends : c.state ≡ run (start c.setup) c.events
  pub own : AllOwn c.setup c.actors c.owners c.events
  pub each : length c.receipts ≡ c.actors
  pub received : AllReceived c.owners c.events c.receipts

-- The closed run of a live run whose actors have these receipts.
abbrev pub closed_of : History → List (List Receipt) → Past
closed_of h lists = record { setup = h.setup; actors = h.actors; events = h.events; owners = h.owners; state = h.state; receipts = lists }
