-- What an attempt to make an event returns and changes.
use Rattle.std.specs.Prelude.{◌≡◌, ◌≢◌, ◌↔◌, ◌⊎◌, length, true, false, None, Some, Result, Err, IfOk, OnOk, OnErr}
use Rattle.scenario.specs.declared.event.Event.{Event}
use Rattle.scenario.specs.declared.event.Refusal.{Refusal}
use Rattle.scenario.specs.declared.event.Refusal.TheVariants.{Memory}
use Rattle.machine.specs.Steps.{refusal}
use Rattle.live_states.specs.declared.receipt.Receipt.{Receipt}
use Rattle.live_states.specs.declared.lives.LiveRefusal.{LiveRefusal}
use Rattle.live_states.specs.declared.lives.LiveRefusal.TheVariants.{NotYours, TraceFull, Step}
use Rattle.live_rules.specs.Actors.{is_own}
use Rattle.live_states.specs.Received.{receipt}
use Rattle.live_states.specs.History.{History, Held, with_event, seat_with}

-- An accepted event is appended to the run, and its actor receives a receipt. The checks come in
-- order: an event that the actor may not make, a full trace, an event that the rules refuse. Any
-- other refusal is an allocation failure. A refusal changes nothing.
pub record Attempted (old : History) (seat : Held) (e : Event) (answer : Result Receipt LiveRefusal) (new : History) (after : Held) : Type 0 where
  pub accepted : OnOk answer (refusal old.state e ≡ None)
  pub run : OnOk answer (new ≡ with_event old seat.actor e)
  pub received : IfOk answer (λ r. r ≡ receipt seat.actor (length old.events) e)
  pub kept : IfOk answer (λ r. after ≡ seat_with seat r)
  pub not_yours : (answer ≡ Err NotYours) ↔ (is_own old.setup old.actors seat.actor e ≡ false)
  pub full : (answer ≡ Err TraceFull) ↔
      ((is_own old.setup old.actors seat.actor e ≡ true) × (length old.events ≡ 1048576))
  pub refused : (n : Refusal) → is_own old.setup old.actors seat.actor e ≡ true
      → length old.events ≢ 1048576 → refusal old.state e ≡ Some n → answer ≡ Err (Step n)
  pub only_memory : (n : Refusal) → answer ≡ Err (Step n)
      → (refusal old.state e ≡ Some n) ⊎ ((n ≡ Memory) × (refusal old.state e ≡ None))
  pub unchanged : OnErr answer ((new ≡ old) × (after ≡ seat))
