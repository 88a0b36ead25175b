-- Bytes that aren't a trace have one first fault.
use Rattle.std.proofs.Common.{◌≡◌, ℕ, ◌*◌, ◌<◌, ◌≤◌, List, length, drop, Some, Result, Ok, Err, refl, sym, ap, subst, ◌∙◌, inl, inr, ◌⊎◌, arith}
use Rattle.std.proofs.lemmas.Bool.{cases_lt}
use Rattle.byteorder.specs.Endian.{little_number}
use Rattle.scenario.specs.declared.event.Event.{Event}
use Rattle.scenario.specs.declared.setup.Setup.{Setup}
use Rattle.traces.specs.declared.fault.TraceFault.{TraceFault}
use Rattle.traces.specs.declared.fault.TraceFault.TheVariants.{Magic, Truncated, Count, Kind, Padding, Trailing, Memory, Setup as SetupFault}
use Rattle.traces.specs.Cursors.{Cursor}
use Rattle.traces.specs.Spelling.{magic, most_events, IsTrace}
use Rattle.traces.specs.Faults.{event_fault, AreClean, IsEventsFault, HasCount, IsCountedFault, BeginsAs, IsFault}
use Rattle.traces.specs.Reading.{setup_at, after_magic, IsBodyFault, IsFault2}
use Rattle.traces.proofs.Traces.{no_trace_fault}

-- The first event with a fault.
abbrev pub FirstEvent : ℕ → List ℕ → TraceFault → Type 0
FirstEvent count bytes f = (k : ℕ) × (k < count) × AreClean k bytes × (event_fault (drop (16 * k) bytes) ≡ Some f)

-- The fault of a list of events, for any kind of fault.
abbrev pub OfEvents : ℕ → List ℕ → TraceFault → Type 0
OfEvents count bytes f = ((f ≡ Trailing) × AreClean count bytes) ⊎ FirstEvent count bytes f

abbrev pub OfCounted : List ℕ → TraceFault → Type 0
OfCounted bytes f = ((f ≡ Truncated) × (length bytes < 4)) ⊎ (((f ≡ Count) × (4 ≤ length bytes) × (most_events < little_number 4 bytes)) ⊎ (HasCount bytes × OfEvents (little_number 4 bytes) (drop 4 bytes) f))

of_events : (count : ℕ) (bytes : List ℕ) (f : TraceFault) → IsEventsFault count bytes f → OfEvents count bytes f
of_events count bytes Trailing h = inl (refl, h.0)
of_events count bytes Magic h = inr h
of_events count bytes Truncated h = inr h
of_events count bytes Count h = inr h
of_events count bytes Kind h = inr h
of_events count bytes Padding h = inr h
of_events count bytes Memory h = inr h
of_events count bytes (SetupFault offset) h = inr h

of_counted : (bytes : List ℕ) (f : TraceFault) → IsCountedFault bytes f → OfCounted bytes f
of_counted bytes Truncated h = elim h [ inl short ↦ inl (refl, short) | inr g ↦ inr (inr (g.0, of_events _ _ Truncated g.1)) ]
of_counted bytes Count h = inr (inl (refl, h.0, h.1))
of_counted bytes Magic h = inr (inr (h.0, of_events _ _ Magic h.1))
of_counted bytes Kind h = inr (inr (h.0, of_events _ _ Kind h.1))
of_counted bytes Padding h = inr (inr (h.0, of_events _ _ Padding h.1))
of_counted bytes Trailing h = inr (inr (h.0, of_events _ _ Trailing h.1))
of_counted bytes Memory h = inr (inr (h.0, of_events _ _ Memory h.1))
of_counted bytes (SetupFault offset) h = inr (inr (h.0, of_events _ _ (SetupFault offset) h.1))

one_at : (bytes : List ℕ) (k j : ℕ) (f g : TraceFault) → event_fault (drop (16 * k) bytes) ≡ Some f → AreClean j bytes → event_fault (drop (16 * j) bytes) ≡ Some g → AreClean k bytes → f ≡ g
one_at bytes k j f g e clean d sound = elim (cases_lt k j) [
  | inl less ↦ absurd (let n = clean k less in cc)
  | inr more ↦ elim (cases_lt j k) [
    | inl less ↦ absurd (let n = sound j less in cc)
    | inr same ↦
        let at : k ≡ j = omega arith in
        let here : event_fault (drop (16 * k) bytes) ≡ Some g = ap (λ (i : ℕ). event_fault (drop (16 * i) bytes)) at ∙ d in
        cc
  ]
]

one_of_events : (count : ℕ) (bytes : List ℕ) (f g : TraceFault) → OfEvents count bytes f → OfEvents count bytes g → f ≡ g
one_of_events count bytes f g (inl a) (inl b) = a.0 ∙ sym b.0
one_of_events count bytes f g (inl a) (inr b) = absurd (let n = a.1 b.0 b.1 in let e = b.3 in cc)
one_of_events count bytes f g (inr a) (inl b) = absurd (let n = b.1 a.0 a.1 in let e = a.3 in cc)
one_of_events count bytes f g (inr a) (inr b) = one_at bytes a.0 b.0 f g a.3 b.2 b.3 a.2

one_of_counted : (bytes : List ℕ) (f g : TraceFault) → OfCounted bytes f → OfCounted bytes g → f ≡ g
one_of_counted bytes f g (inl a) (inl b) = a.0 ∙ sym b.0
one_of_counted bytes f g (inl a) (inr (inl b)) = absurd (let x = a.1 in let y = b.1 in omega arith)
one_of_counted bytes f g (inl a) (inr (inr b)) = absurd (let x = a.1 in let y = b.0.0 in omega arith)
one_of_counted bytes f g (inr (inl a)) (inl b) = absurd (let x = b.1 in let y = a.1 in omega arith)
one_of_counted bytes f g (inr (inl a)) (inr (inl b)) = a.0 ∙ sym b.0
one_of_counted bytes f g (inr (inl a)) (inr (inr b)) = absurd (let x = a.2 in let y = b.0.1 in omega arith)
one_of_counted bytes f g (inr (inr a)) (inl b) = absurd (let x = b.1 in let y = a.0.0 in omega arith)
one_of_counted bytes f g (inr (inr a)) (inr (inl b)) = absurd (let x = b.2 in let y = a.0.1 in omega arith)
one_of_counted bytes f g (inr (inr a)) (inr (inr b)) = one_of_events (little_number 4 bytes) (drop 4 bytes) f g a.1 b.1

-- The first fault of a count and its events is unique.
pub counted_alike : (bytes : List ℕ) (f g : TraceFault) → IsCountedFault bytes f → IsCountedFault bytes g → f ≡ g
counted_alike bytes f g a b = one_of_counted bytes f g (of_counted bytes f a) (of_counted bytes g b)

abbrev pub OfTrace : List ℕ → TraceFault → Type 0
OfTrace bytes f = ((f ≡ Magic) × (BeginsAs magic bytes → ⊥)) ⊎ (BeginsAs magic bytes × IsCountedFault (drop 8 bytes) f)

of_trace : (bytes : List ℕ) (f : TraceFault) → IsFault bytes f → OfTrace bytes f
of_trace bytes Magic h = inl (refl, h)
of_trace bytes Truncated h = inr h
of_trace bytes Count h = inr h
of_trace bytes Kind h = inr h
of_trace bytes Padding h = inr h
of_trace bytes Trailing h = inr h
of_trace bytes Memory h = inr h
of_trace bytes (SetupFault offset) h = inr h

-- The same for a trace of the first form.
pub faults_alike : (bytes : List ℕ) (f g : TraceFault) → IsFault bytes f → IsFault bytes g → f ≡ g
faults_alike bytes f g a b = by (of_trace bytes f a) (of_trace bytes g b)
  where
    by : OfTrace bytes f → OfTrace bytes g → f ≡ g
    by (inl x) (inl y) = x.0 ∙ sym y.0
    by (inl x) (inr y) = absurd (x.1 y.0)
    by (inr x) (inl y) = absurd (y.1 x.0)
    by (inr x) (inr y) = counted_alike (drop 8 bytes) f g x.1 y.1

body_alike : (r : Result (Setup × Cursor) TraceFault) (f g : TraceFault) → IsBodyFault r f → IsBodyFault r g → f ≡ g
body_alike (Ok found) f g a b = counted_alike found.1.rest f g a b
body_alike (Err first) f g a b = a ∙ sym b

-- The same for a trace of the second form.
pub faults2_alike : (bytes : List ℕ) (f g : TraceFault) → IsFault2 bytes f → IsFault2 bytes g → f ≡ g
faults2_alike bytes f g (inl x) (inl y) = x.1 ∙ sym y.1
faults2_alike bytes f g (inl x) (inr y) = absurd (x.0 y.0)
faults2_alike bytes f g (inr x) (inl y) = absurd (y.0 x.0)
faults2_alike bytes f g (inr x) (inr y) = body_alike (setup_at (after_magic bytes)) f g x.1 y.1

-- A trace of a list of events has no fault.
pub no_fault : (events : List Event) (bytes : List ℕ) (fault : TraceFault) → IsTrace events bytes → IsFault bytes fault → ⊥
no_fault events bytes fault h g = no_trace_fault events fault h.0 (subst (λ (xs : List ℕ). IsFault xs fault) h.1 g)
