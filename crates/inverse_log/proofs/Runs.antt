-- Lemmas about runs, their prefixes, and records that lead back.
use Rattle.std.proofs.Common.{◌≡◌, ℕ, zero, suc, ◌+◌, ◌-◌, ◌<◌, List, [], ◌∷◌, ◌++◌, ◌⊎◌, inl, inr, length, take, drop, get_or, refl, sym, ap, subst, ◌∙◌, arith, add-one}
use Rattle.std.specs.Prelude.{Option, Some, None}
use Rattle.std.proofs.lemmas.List.{take_more, take-append-drop, length-drop}
use Rattle.std.proofs.Math.Seq.{take-length}
use Rattle.places.specs.declared.value.Change.{Change}
use Rattle.machine.specs.declared.whole.Machine.{Machine}
use Rattle.scenario.specs.declared.setup.Setup.{Setup}
use Rattle.scenario.specs.declared.event.Event.{Event}
use Rattle.scenario.specs.declared.event.Refusal.{Refusal}
use Rattle.scenario.specs.declared.event.Refusal.TheVariants.{Memory}
use Rattle.machine.specs.Steps.{refusal, after, Next}
use Rattle.machine.specs.Runs.{run, IsRefused, start}
pub use Rattle.machine.proofs.Longer.{run-append, run-push, accepts-append, accepts-push}
pub use Rattle.machine.proofs.LinkedRuns.{linked_runs, linked_accepts, length_linked, linked_at, linked_more, linked_take}
use Rattle.places.specs.View.{Exact}
use Rattle.machine.specs.Whole.{view}
use Rattle.inverse_log.specs.Tracks.{RefusedAt, Recorded}

-- ---- Runs

pub run-take_suc : (s : Machine) (es : List Event) (i : ℕ) (e : Event) → i < length es → e ≡ get_or es i e → run s (take (suc i) es) ≡ after (run s (take i es)) e
run-take_suc s [] i e h g = absurd (omega arith)
run-take_suc s (x ∷ es) zero e h g = ap (λ y. after s y) (sym g)
run-take_suc s (x ∷ es) (suc i) e h g = run-take_suc (after s x) es i e (omega arith) g

pub run-take_more : (s : Machine) (es : List Event) (i : ℕ) (e : Event) → i < length es → e ≡ get_or es i e → run s (take (i + 1) es) ≡ after (run s (take i es)) e
run-take_more s es i e h g = rw add-one (run-take_suc s es i e h g)

-- One more event of the list is one more step.
pub run-more : (s m m' : Machine) (es : List Event) (i : ℕ) (e d : Event) → i < length es → e ≡ get_or es i d → m ≡ run s (take i es) → Next m e m' → m' ≡ run s (take (i + 1) es)
run-more s m m' es i e d h g here next =
    let more : run s (take (i + 1) es) ≡ after (run s (take i es)) (get_or es i d) = ap (run s) (take_more es i d h) ∙ run-push s (take i es) (get_or es i d) in
    next.changed ∙ ap (λ x. after x e) here ∙ ap (λ x. after (run s (take i es)) x) g ∙ sym more

-- What follows moment n of a list, taken to the list's end.
pub sliced : (es : List Event) (n : ℕ) → take (length es - n) (drop n es) ≡ drop n es
sliced es n = subst (λ (k : ℕ). take k (drop n es) ≡ drop n es) (length-drop n es) (take-length (drop n es))

-- Running the rest of a list from a moment of it leads to its end.
pub run_rest : (s : Machine) (es : List Event) (n : ℕ) → run (run s (take n es)) (drop n es) ≡ run s es
run_rest s es n = sym (run-append s (take n es) (drop n es)) ∙ ap (run s) (take-append-drop n es)

pub run_all : (s : Machine) (es : List Event) (n : ℕ) → n ≡ length es → run s (take n es) ≡ run s es
run_all s [] zero h = refl
run_all s [] (suc n) h = refl
run_all s (x ∷ es) zero h = absurd (omega arith)
run_all s (x ∷ es) (suc n) h = run_all (after s x) es n (omega arith)

-- ---- What records name

pub recorded_more : (s : Machine) (es : List Event) (rs : List (List Change)) (e : Event) (r : List Change) → Recorded s es rs → Exact (view (run s es)) (view (after (run s es) e)) r → Recorded s (es ++ e ∷ []) (rs ++ r ∷ [])
recorded_more s [] [] e r h x = (x, tt)
recorded_more s [] (q ∷ qs) e r h x = absurd h
recorded_more s (f ∷ fs) [] e r h x = absurd h
recorded_more s (f ∷ fs) (q ∷ qs) e r h x = (h.0, recorded_more (after s f) fs qs e r h.1 x)

pub recorded_take : (s : Machine) (es : List Event) (rs : List (List Change)) (n : ℕ) → Recorded s es rs → Recorded s (take n es) (take n rs)
recorded_take s es rs zero h = tt
recorded_take s [] [] (suc n) h = tt
recorded_take s [] (r ∷ rs) (suc n) h = absurd h
recorded_take s (e ∷ es) [] (suc n) h = absurd h
recorded_take s (e ∷ es) (r ∷ rs) (suc n) h = (h.0, recorded_take (after s e) es rs n h.1)

-- ---- Refusals

-- A step was refused for a rule's reason, or for lack of memory where no rule refuses it.
pub why_refused : (o : Option Refusal) (n : Refusal) → ((k : Refusal) → o ≡ Some k → n ≡ k) → (o ≡ None → n ≡ Memory) → (o ≡ Some n) ⊎ ((n ≡ Memory) × (o ≡ None))
why_refused None n f g = inr (g refl, refl)
why_refused (Some k) n f g = inl (ap Some (sym (f k refl)))

-- A run from its start stops at an event that a rule refuses, or at an allocation failure.
pub is_refused : (setup : Setup) (es : List Event) (i : ℕ) (n : Refusal) → RefusedAt (start setup) es i n → (IsRefused setup es i n) ⊎ (n ≡ Memory)
is_refused setup es i n h = by h.refused
  where
    by : (refusal (run (start setup) (take i es)) h.event ≡ Some n) ⊎ ((n ≡ Memory) × ((i ≡ 0) ⊎ (refusal (run (start setup) (take i es)) h.event ≡ None))) → (IsRefused setup es i n) ⊎ (n ≡ Memory)
    by (inl e) = inl (record { event = h.event; there = h.there; runs = h.runs; refused = e })
    by (inr e) = inr e.0
