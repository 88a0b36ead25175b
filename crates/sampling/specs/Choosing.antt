-- The event that a run does next: of the events that are offered and accepted, the one whose actor
-- has the greatest rank. This is partial order sampling (Yuan, Yang and Gu, 2018).
use Rattle.std.specs.Prelude.{◌≡◌, ℕ, ◌≤◌, ◌<◌, Bool, true, nat_lt, Option, Some, None, is_none, if◌then◌else◌}
use Rattle.std.specs.Option.{MatchOption}
use Rattle.scenario.specs.declared.event.Event.{Event}
use Rattle.machine.specs.declared.whole.Machine.{Machine}
use Rattle.machine.specs.Steps.{refusal}
use Rattle.sampling.specs.declared.draws.Source.{Source}
use Rattle.sampling.specs.declared.choosing.Best.{Best}
use Rattle.sampling.specs.Offers.{offer_of, rank_of}

-- An actor offers an event, and it is accepted.
pub record IsReady (s : Source) (m : Machine) (actor : ℕ) (e : Event) : Type 0 where
  pub offered : offer_of s m actor ≡ Some e
  pub accepted : refusal m e ≡ None

-- Some actor below n offers the event, and no actor below n whose event is accepted has a greater
-- rank.
pub record IsBest (s : Source) (m : Machine) (n : ℕ) (rank : ℕ) (e : Event) : Type 0 where
  pub actor : ℕ
  pub within : actor < n
  pub ready : IsReady s m actor e
  pub ranked : rank ≡ rank_of s m actor
  pub greatest : (other : ℕ) → other < n → (f : Event) → IsReady s m other f
      → rank_of s m other ≤ rank

-- No event of an actor below n is accepted.
abbrev pub NoneReady : Source → Machine → ℕ → Type 0
NoneReady s m n = (other : ℕ) → other < n → (f : Event) → IsReady s m other f → ⊥

-- The best event of the actors below n, if there is one.
pub record SaysBest (s : Source) (m : Machine) (n : ℕ) (best : Option Best) : Type 0 where
  pub holds : MatchOption best (NoneReady s m n) (λ b. IsBest s m n b.rank b.event)

-- The event that is done next.
pub record IsChosen (s : Source) (m : Machine) (e : Event) : Type 0 where
  pub actor : ℕ
  pub ready : IsReady s m actor e
  pub greatest : (other : ℕ) (f : Event) → IsReady s m other f
      → rank_of s m other ≤ rank_of s m actor

-- No actor's event is accepted.
pub record NoneChosen (s : Source) (m : Machine) : Type 0 where
  pub none : (actor : ℕ) (e : Event) → IsReady s m actor e → ⊥

-- ---- one actor more

-- Whether a rank is greater than that of the best event so far.
abbrev pub beats : ℕ → Option Best → Bool
beats rank None = true
beats rank (Some b) = nat_lt b.rank rank

-- The best event after an actor of a greater rank made an offer.
abbrev pub challenged : Machine → ℕ → Option Event → Option Best → Option Best
challenged m rank None best = best
challenged m rank (Some e) best =
    if is_none (refusal m e) then Some (record { rank = rank; event = e }) else best
