-- Proofs of the laws of `torn_from` and `refused_from`.
use Rattle.std.proofs.Common.{◌≡◌, ◌≢◌, ℕ, zero, suc, ◌+◌, ◌<◌, List, [], ◌∷◌, length, take, Bool, true, false, Option, Some, None, refl, ap, arith}
use Rattle.std.specs.Prelude.{slice_get}
use Rattle.scenario.specs.declared.event.Event.{Event}
use Rattle.scenario.specs.declared.event.Refusal.{Refusal}
use Rattle.machine.specs.declared.whole.Machine.{Machine}
use Rattle.machine.specs.Steps.{refusal, after}
use Rattle.machine.specs.Runs.{Accepts}
use Rattle.debug_server.specs.Syncs.{same_event, torn_from, refused_from, IsTorn, IsFirstRefused}
use Rattle.debug_server.proofs.Torn.{event_decides}

-- ---- The first difference

-- After an equal event.
torn_later : (e f : Event) (es fs : List Event) (k : ℕ) → e ≡ f → IsTorn es fs k → IsTorn (e ∷ es) (f ∷ fs) (suc k)
torn_later e f es fs k s t = record { event = t.event; there = t.there; same = same; differs = t.differs }
  where
    same : (i : ℕ) → i < suc k → slice_get (e ∷ es) i ≡ slice_get (f ∷ fs) i
    same zero h = ap Some s
    same (suc i) h = t.same i (omega arith)

-- The other list doesn't have this event at its index.
torn_now : (e : Event) (es fs : List Event) → slice_get fs zero ≢ Some e → IsTorn (e ∷ es) fs zero
torn_now e es fs h = record { event = e; there = refl; same = λ i b. absurd (omega arith); differs = h }

pub torn_is : (i : ℕ) (es fs : List Event) (j : ℕ) → torn_from i es fs ≡ Some j → (k : ℕ) × (j ≡ i + k) × IsTorn es fs k
unfolding torn_from
torn_is i [] fs j h = absurd (cc)
torn_is i (e ∷ es) [] j h = let same : i ≡ j = cc in (zero, omega arith, torn_now e es [] (λ x. cc))
torn_is i (e ∷ es) (f ∷ fs) j h = by (same_event e f) refl (torn_is (i + 1) es fs j)
  where
    by : (q : Bool) → same_event e f ≡ q → (torn_from (i + 1) es fs ≡ Some j → (k : ℕ) × (j ≡ i + 1 + k) × IsTorn es fs k) → (k : ℕ) × (j ≡ i + k) × IsTorn (e ∷ es) (f ∷ fs) k
    by true s g = let t = g (rw s at h) in let p = t.1 in (suc t.0, omega arith, torn_later e f es fs t.0 ((event_decides e f).0 s) t.2)
    by false s g =
        let same : i ≡ j = (let x = rw s at h in cc) in
        (zero, omega arith, torn_now e es (f ∷ fs) (λ x. let y = (event_decides e f).1 (let z : e ≡ f = cc in z) in cc))

pub torn_whole : (i : ℕ) (es fs : List Event) → torn_from i es fs ≡ None → take (length es) fs ≡ es
unfolding torn_from
torn_whole i [] fs h = refl
torn_whole i (e ∷ es) [] h = absurd (cc)
torn_whole i (e ∷ es) (f ∷ fs) h = by (same_event e f) refl (torn_whole (i + 1) es fs)
  where
    by : (q : Bool) → same_event e f ≡ q → (torn_from (i + 1) es fs ≡ None → take (length es) fs ≡ es) → take (length (e ∷ es)) (f ∷ fs) ≡ e ∷ es
    by true s g = let same = (event_decides e f).0 s in let rest = g (rw s at h) in cc
    by false s g = absurd (let x = rw s at h in cc)

-- ---- Refused events

pub refused_is : (i : ℕ) (m : Machine) (es : List Event) (j : ℕ) → refused_from i m es ≡ Some j → (k : ℕ) × (j ≡ i + k) × IsFirstRefused m es k
unfolding refused_from
refused_is i m [] j h = absurd (cc)
refused_is i m (e ∷ es) j h = by (refusal m e) refl (refused_is (i + 1) (after m e) es j)
  where
    by : (o : Option Refusal) → refusal m e ≡ o → (refused_from (i + 1) (after m e) es ≡ Some j → (k : ℕ) × (j ≡ i + 1 + k) × IsFirstRefused (after m e) es k) → (k : ℕ) × (j ≡ i + k) × IsFirstRefused m (e ∷ es) k
    by None s g =
        let t = g (rw s at h) in
        let p = t.1 in
        (suc t.0, omega arith, record { event = t.2.event; there = t.2.there; runs = (s, t.2.runs); reason = t.2.reason; refused = t.2.refused })
    by (Some r) s g =
        let same : i ≡ j = (let x = rw s at h in cc) in
        (zero, omega arith, record { event = e; there = refl; runs = tt; reason = r; refused = s })

pub refused_whole : (i : ℕ) (m : Machine) (es : List Event) → refused_from i m es ≡ None → Accepts m es
unfolding refused_from
refused_whole i m [] h = tt
refused_whole i m (e ∷ es) h = by (refusal m e) refl (refused_whole (i + 1) (after m e) es)
  where
    by : (o : Option Refusal) → refusal m e ≡ o → (refused_from (i + 1) (after m e) es ≡ None → Accepts (after m e) es) → Accepts m (e ∷ es)
    by None s g = (s, g (rw s at h))
    by (Some r) s g = absurd (let x = rw s at h in cc)
