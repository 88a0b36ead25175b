-- The outcome of a session over events, given the outcome of its replies.
use Rattle.std.proofs.Common.{◌≡◌, ℕ, true, false, List, [], ◌∷◌, Result, Ok, Err, refl, sym, ◌∙◌}
use Rattle.std.specs.Prelude.{OnOk, IfErr}
use Rattle.scenario.specs.declared.event.Event.{Event}
use Rattle.scenario.specs.declared.event.Refusal.{Refusal}
use Rattle.scenario.specs.declared.setup.Setup.{Setup}
use Rattle.machine.specs.Runs.{start, Accepts}
use Rattle.traces.specs.declared.fault.TraceFault.{TraceFault}
use Rattle.debug_server.specs.SessionStates.{SessionState, SessionValue}
use Rattle.debug_server.specs.Kinds.{IsOf, is_kind, OfSchedule, OfServing, OfMemory, OfTrace}
use Rattle.debug_server.specs.Schedules.{state_over}
use Rattle.debug_server.specs.Transcripts.{Streams}
use Rattle.debug_server.specs.Walked.{Replied, BrokenBy, Walked, BrokenOff}
use Rattle.debug_server.specs.declared.faults.RunFault.{RunFault}
use Rattle.debug_server.specs.declared.faults.RunFault.TheVariants.{Schedule, Serve, Memory, Trace}
use Rattle.debug_server.specs.declared.faults.ServeFault.{ServeFault}
use Rattle.debug_server.proofs.Alone.{served_at, broke_at}

pub walked_at : {A : Type 0} (t : SessionValue) (setup : Setup) (events : List Event) (before after : Streams) (r : Result A RunFault) → t ≡ record { state = state_over setup events; is_closed = false } → Accepts (start setup) events → OnOk r (Replied t.state before after) → OnOk r (Walked setup events before after)
walked_at t setup events before after (Ok x) e a h = record {
  runs = a;
  answers = h.answers;
  unanswered = h.unanswered;
  next = h.next;
  quits = h.quits;
  served = served_at t (state_over setup events) h.next before after h.answers h.quits e h.served;
}
walked_at t setup events before after (Err f) e a h = h

pub broken_at : {A : Type 0} (t : SessionValue) (setup : Setup) (events : List Event) (before after : Streams) (r : Result A RunFault) → t ≡ record { state = state_over setup events; is_closed = false } → Accepts (start setup) events → IfErr r (BrokenBy t.state before after) → IfErr r (λ e. (f : ServeFault) → e ≡ Serve f → BrokenOff setup events before after f)
broken_at t setup events before after (Ok x) e a h = h
broken_at t setup events before after (Err d) e a h = λ f k. record {
  runs = a;
  answers = h.answers;
  unanswered = h.unanswered;
  broke = broke_at t (state_over setup events) before after h.answers h.fault f e (sym h.is_serve ∙ k) h.broke;
}

pub no_schedule : {A : Type 0} (v : SessionState) (before after : Streams) (r : Result A RunFault) (X : ℕ → Refusal → Type 0) → IfErr r (BrokenBy v before after) → IfErr r (λ e. (i : ℕ) (n : Refusal) → e ≡ Schedule i n → X i n)
no_schedule v before after (Ok x) X h = h
no_schedule v before after (Err e) X h = λ i n k. let same : Schedule i n ≡ Serve h.fault = sym k ∙ h.is_serve in absurd (cc)

pub no_trace : {A : Type 0} (v : SessionState) (before after : Streams) (r : Result A RunFault) (X : TraceFault → Type 0) → IfErr r (BrokenBy v before after) → IfErr r (λ e. (f : TraceFault) → e ≡ Trace f → X f)
no_trace v before after (Ok x) X h = h
no_trace v before after (Err e) X h = λ f k. let same : Trace f ≡ Serve h.fault = sym k ∙ h.is_serve in absurd (cc)

pub no_memory : {A : Type 0} (v : SessionState) (before after : Streams) (r : Result A RunFault) (X : Type 0) → IfErr r (BrokenBy v before after) → IfErr r (λ e. e ≡ Memory → X)
no_memory v before after (Ok x) X h = h
no_memory v before after (Err e) X h = λ k. let same : Memory ≡ Serve h.fault = sym k ∙ h.is_serve in absurd (cc)

is_serving : (e : RunFault) (f : ServeFault) → e ≡ Serve f → is_kind e OfServing ≡ true
is_serving e f k = rw k refl

pub no_other : {A : Type 0} (v : SessionState) (before after : Streams) (r : Result A RunFault) (X : Type 0) → IfErr r (BrokenBy v before after) → IfErr r (λ e. is_kind e OfServing ≡ false → X)
no_other v before after (Ok x) X h = h
no_other v before after (Err e) X h = λ k. let same : true ≡ false = sym (is_serving e h.fault h.is_serve) ∙ k in absurd (cc)

served : (e : RunFault) (f : ServeFault) → e ≡ Serve f → IsOf (OfSchedule ∷ OfServing ∷ OfMemory ∷ []) e
served e f k = rw k refl

pub of_run : {A : Type 0} (v : SessionState) (before after : Streams) (r : Result A RunFault) → IfErr r (BrokenBy v before after) → IfErr r (IsOf (OfSchedule ∷ OfServing ∷ OfMemory ∷ []))
of_run v before after (Ok x) h = h
of_run v before after (Err e) h = served e h.fault h.is_serve

served_of_trace : (e : RunFault) (f : ServeFault) → e ≡ Serve f → IsOf (OfTrace ∷ OfSchedule ∷ OfServing ∷ OfMemory ∷ []) e
served_of_trace e f k = rw k refl

pub of_replay : {A : Type 0} (v : SessionState) (before after : Streams) (r : Result A RunFault) → IfErr r (BrokenBy v before after) → IfErr r (IsOf (OfTrace ∷ OfSchedule ∷ OfServing ∷ OfMemory ∷ []))
of_replay v before after (Ok x) h = h
of_replay v before after (Err e) h = served_of_trace e h.fault h.is_serve
