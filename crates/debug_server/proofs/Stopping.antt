-- The fault of a schedule that stops.
use Rattle.std.proofs.Common.{◌≡◌, inl, inr, ℕ, List, ◌∷◌, [], refl, sym, subst}
use Rattle.scenario.specs.declared.setup.Setup.{Setup}
use Rattle.scenario.specs.declared.event.Event.{Event}
use Rattle.scenario.specs.declared.event.Refusal.{Refusal}
use Rattle.scenario.specs.declared.event.Refusal.TheVariants.{Memory}
use Rattle.machine.specs.Runs.{start, IsRefused}
use Rattle.inverse_log.specs.declared.refusal.ExtendRefusal.{ExtendRefusal}
use Rattle.inverse_log.specs.declared.refusal.ExtendRefusal.TheVariants.{TraceFull, Refused}
use Rattle.inverse_log.specs.Tracks.{RefusedAt}
use Rattle.debug_server.specs.declared.faults.RunFault.{RunFault}
use Rattle.debug_server.specs.declared.faults.RunFault.TheVariants.{Script, Schedule, Serve, Memory as OutOfMemory, Net, Trace}
use Rattle.debug_server.specs.Kinds.{IsOf, OfSchedule, OfMemory}
use Rattle.debug_server.specs.Schedules.{StopsBy, fault_by, fault_of}

pub stops_by_number : (setup : Setup) (es : List Event) (i : ℕ) (n : Refusal) → RefusedAt (start setup) es i n → StopsBy setup es (fault_by i n)
stops_by_number setup es i Memory s = tt
stops_by_number setup es i n s = record { event = s.event; there = s.there; runs = s.runs; refused = elim s.refused [ inl e ↦ e | inr m ↦ absurd (let e = m.0 in cc) ] }

pub stops_by : (setup : Setup) (es : List Event) (e : ExtendRefusal) → ((i : ℕ) (n : Refusal) → e ≡ Refused i n → RefusedAt (start setup) es i n) → StopsBy setup es (fault_of e)
stops_by setup es TraceFull h = tt
stops_by setup es (Refused i n) h = stops_by_number setup es i n (h i n refl)

pub refused_at : (setup : Setup) (es : List Event) (f : RunFault) → StopsBy setup es f → (i : ℕ) (n : Refusal) → f ≡ Schedule i n → IsRefused setup es i n
refused_at setup es f s i n e = let P : RunFault → Type 0 = λ x. StopsBy setup es x in subst P e s

pub of_schedule : (setup : Setup) (es : List Event) (f : RunFault) → StopsBy setup es f → IsOf (OfSchedule ∷ OfMemory ∷ []) f
of_schedule setup es (Script f) s = absurd s
of_schedule setup es (Schedule i n) s = refl
of_schedule setup es (Serve f) s = absurd s
of_schedule setup es OutOfMemory s = refl
of_schedule setup es Net s = absurd s
of_schedule setup es (Trace f) s = absurd s

-- If a walk refuses the events, the schedule stops with the corresponding fault.
pub stops_for : (setup : Setup) (es : List Event) (e : ExtendRefusal) (f : RunFault) → f ≡ fault_of e → ((i : ℕ) (n : Refusal) → e ≡ Refused i n → RefusedAt (start setup) es i n) → StopsBy setup es f
stops_for setup es e f q h = let P : RunFault → Type 0 = λ x. StopsBy setup es x in subst P (sym q) (stops_by setup es e h)
