-- The first difference between a run and a source's trace.
use Rattle.std.proofs.Common.{◌≡◌, ◌≢◌, inl, inr, ℕ, zero, suc, ◌+◌, ◌<◌, ◌≤◌, List, [], ◌∷◌, length, take, drop, get_or, Bool, true, false, cond, Option, Some, None, refl, sym, ap, ◌∙◌, subst, arith, add-one, drop-cons}
use Rattle.std.specs.Prelude.{is_some, slice_get}
use Rattle.std.specs.Bool.{Decides}
use Rattle.std.proofs.lemmas.Bool.Decides.{Decides-eqb, Decides-and, Decides-like}
use Rattle.entries.specs.declared.choice.Choice.{Choice}
use Rattle.entries.specs.declared.choice.Choice.TheVariants.{Full, Short, Eio}
use Rattle.scenario.specs.declared.event.Event.{Event}
use Rattle.scenario.specs.declared.event.Event.TheVariants.{Step, Take, Sleep, Issue, Finish, Expire, Tick}
use Rattle.scenario.specs.declared.event.Refusal.{Refusal}
use Rattle.scenario.specs.declared.event.Refusal.TheVariants.{Memory}
use Rattle.machine.specs.declared.whole.Machine.{Machine}
use Rattle.machine.specs.Steps.{refusal, after}
use Rattle.machine.specs.Runs.{run, Accepts}
use Rattle.inverse_log.specs.declared.refusal.ExtendRefusal.{ExtendRefusal}
use Rattle.inverse_log.specs.declared.refusal.ExtendRefusal.TheVariants.{TraceFull, Refused}
use Rattle.inverse_log.specs.Tracks.{RefusedAt}
use Rattle.inverse_log.specs.Walks.{Walk, ending, extended}
use Rattle.debug_server.specs.Syncs.{same_choice, same_event, torn_from, refused_from}
use Rattle.watches.specs.Watchpoints.{Stops}
use Rattle.debug_server.specs.SessionStates.{SessionState, walked_to}
use Rattle.debug_server.specs.Replies.{event_text, takes_over}
use Rattle.debug_server.specs.Refusing.{RefusalText}

-- ---- Events

differing : {P : Type 0} → (P → ⊥) → Decides false P
differing f = (λ e. cc, λ p. absurd (f p))

choice_decides : (a b : Choice) → Decides (same_choice a b) (a ≡ b)
choice_decides Full Full = (λ e. refl, λ e. refl)
choice_decides (Short a) (Short b) = Decides-like _ (λ e. ap Short e) (λ e. cc) (Decides-eqb a b)
choice_decides Eio Eio = (λ e. refl, λ e. refl)
choice_decides _ _ = differing (λ e. cc)

pub event_decides : (a b : Event) → Decides (same_event a b) (a ≡ b)
event_decides (Step a) (Step b) = Decides-like _ (λ e. ap Step e) (λ e. cc) (Decides-eqb a b)
event_decides (Take a) (Take b) = Decides-like _ (λ e. ap Take e) (λ e. cc) (Decides-eqb a b)
event_decides Sleep Sleep = (λ e. refl, λ e. refl)
event_decides (Issue a) (Issue b) = Decides-like _ (λ e. ap Issue e) (λ e. cc) (Decides-eqb a b)
event_decides (Finish a c) (Finish b d) = Decides-like _ (λ h. let p = h.0 in let q = h.1 in cc) (λ e. (cc, cc)) (Decides-and _ _ (Decides-eqb a b) (choice_decides c d))
event_decides (Expire a) (Expire b) = Decides-like _ (λ e. ap Expire e) (λ e. cc) (Decides-eqb a b)
event_decides (Tick a) (Tick b) = Decides-like _ (λ e. ap Tick e) (λ e. cc) (Decides-eqb a b)
event_decides _ _ = differing (λ e. cc)

nothing_of : (b : Bool) → (b ≡ true → ⊥) → b ≡ false
nothing_of true h = absurd (h refl)
nothing_of false h = refl

-- ---- The first difference

drop_at : (es : List Event) (i : ℕ) (d : Event) → i < length es → drop i es ≡ get_or es i d ∷ drop (i + 1) es
drop_at es i d h = drop-cons es i d h ∙ ap (λ n. get_or es i d ∷ drop n es) (sym (add-one i))

drop_none : (es : List Event) (i : ℕ) → length es ≤ i → drop i es ≡ []
drop_none [] zero h = refl
drop_none [] (suc i) h = refl
drop_none (e ∷ es) zero h = absurd (omega arith)
drop_none (e ∷ es) (suc i) h = drop_none es i (omega arith)

-- The events at this index are equal.
pub torn_on : (es fs : List Event) (i : ℕ) (d : Event) → i < length es → i < length fs → get_or es i d ≡ get_or fs i d → torn_from 0 es fs ≡ torn_from i (drop i es) (drop i fs) → torn_from 0 es fs ≡ torn_from (i + 1) (drop (i + 1) es) (drop (i + 1) fs)
unfolding torn_from
torn_on es fs i d h k s t =
    t ∙ ap (λ l. torn_from i l (drop i fs)) (drop_at es i d h)
    ∙ ap (torn_from i (get_or es i d ∷ drop (i + 1) es)) (drop_at fs i d k)
    ∙ ap (λ q. cond q (torn_from (i + 1) (drop (i + 1) es) (drop (i + 1) fs)) (Some i)) ((event_decides (get_or es i d) (get_or fs i d)).1 s)

-- The events at this index differ.
pub torn_here : (es fs : List Event) (i : ℕ) (d : Event) → i < length es → i < length fs → (get_or es i d ≡ get_or fs i d → ⊥) → torn_from 0 es fs ≡ torn_from i (drop i es) (drop i fs) → torn_from 0 es fs ≡ Some i
unfolding torn_from
torn_here es fs i d h k s t =
    t ∙ ap (λ l. torn_from i l (drop i fs)) (drop_at es i d h)
    ∙ ap (torn_from i (get_or es i d ∷ drop (i + 1) es)) (drop_at fs i d k)
    ∙ ap (λ q. cond q (torn_from (i + 1) (drop (i + 1) es) (drop (i + 1) fs)) (Some i)) (nothing_of (same_event (get_or es i d) (get_or fs i d)) (λ y. s ((event_decides (get_or es i d) (get_or fs i d)).0 y)))

length_rest : (xs : List Event) (n : ℕ) → n < length xs → 0 < length (drop n xs)
length_rest [] n b = absurd (omega arith)
length_rest (x ∷ xs) zero b = omega arith
length_rest (x ∷ xs) (suc n) b = length_rest xs n (omega arith)

torn_some : (i : ℕ) (xs : List Event) → 0 < length xs → torn_from i xs [] ≡ Some i
unfolding torn_from
torn_some i [] b = absurd (omega arith)
torn_some i (x ∷ xs) b = refl

-- The other list ends at this index.
pub torn_end : (es fs : List Event) (i : ℕ) → i < length es → length fs ≤ i → torn_from 0 es fs ≡ torn_from i (drop i es) (drop i fs) → torn_from 0 es fs ≡ Some i
torn_end es fs i h k t = t ∙ ap (torn_from i (drop i es)) (drop_none fs i k) ∙ torn_some i (drop i es) (length_rest es i h)

-- No event is left.
pub torn_none : (es fs : List Event) (i : ℕ) → length es ≤ i → torn_from 0 es fs ≡ torn_from i (drop i es) (drop i fs) → torn_from 0 es fs ≡ None
unfolding torn_from
torn_none es fs i h t = t ∙ ap (λ l. torn_from i l (drop i fs)) (drop_none es i h)

-- A list without a difference is no longer than the other.
pub torn_length : (i : ℕ) (es fs : List Event) → torn_from i es fs ≡ None → length es ≤ length fs
unfolding torn_from
torn_length i [] fs h = omega arith
torn_length i (e ∷ es) [] h = absurd (cc)
torn_length i (e ∷ es) (f ∷ fs) h = by (same_event e f) refl (torn_length (i + 1) es fs)
  where
    by : (q : Bool) → same_event e f ≡ q → (torn_from (i + 1) es fs ≡ None → length es ≤ length fs) → length (e ∷ es) ≤ length (f ∷ fs)
    by true k g = let n = g (rw k at h) in omega arith
    by false k g = absurd (let x = rw k at h in cc)

-- ---- Refused events

-- No event is refused.
pub refused_none : (i : ℕ) (m : Machine) (es : List Event) → Accepts m es → refused_from i m es ≡ None
unfolding refused_from
refused_none i m [] h = refl
refused_none i m (e ∷ es) h = ap (λ o. cond (is_some o) (Some i) (refused_from (i + 1) (after m e) es)) h.0 ∙ refused_none (i + 1) (after m e) es h.1

refused_first : (i k : ℕ) (m : Machine) (es : List Event) (e : Event) (n : Refusal) → Accepts m (take k es) → slice_get es k ≡ Some e → refusal (run m (take k es)) e ≡ Some n → refused_from i m es ≡ Some (i + k)
unfolding refused_from
refused_first i k m [] e n a g r = absurd (cc)
refused_first i zero m (x ∷ es) e n a g r =
    let same : x ≡ e = cc in
    ap (λ o. cond (is_some o) (Some i) (refused_from (i + 1) (after m x) es)) (ap (refusal m) same ∙ r) ∙ ap (λ j. Some j) (let z : i ≡ i + zero = omega arith in z)
refused_first i (suc k) m (x ∷ es) e n a g r =
    ap (λ o. cond (is_some o) (Some i) (refused_from (i + 1) (after m x) es)) a.0
    ∙ refused_first (i + 1) k (after m x) es e n a.1 g r
    ∙ ap (λ j. Some j) (let z : i + 1 + k ≡ i + suc k = omega arith in z)

-- The event that a rule refuses.
pub refused_one : (i k : ℕ) (m : Machine) (es : List Event) (n : Refusal) → n ≢ Memory → RefusedAt m es k n → refused_from i m es ≡ Some (i + k)
refused_one i k m es n d s = refused_first i k m es s.event n s.runs s.there (elim s.refused [ inl e ↦ e | inr e ↦ absurd (d e.0) ])

-- The reply that names it.
pub refused_reported : (known : ℕ) (m : Machine) (es : List Event) (e : ExtendRefusal) (text : List ℕ) → ((i : ℕ) (n : Refusal) → e ≡ Refused i n → RefusedAt m es i n) → RefusalText known e text → (k : ℕ) × (refused_from known m es ≡ Some (known + k)) × (text ≡ event_text (known + k))
refused_reported known m es TraceFull text s t = absurd t
refused_reported known m es (Refused i Memory) text s t = absurd t
refused_reported known m es (Refused i n) text s t = (i, refused_one known i m es n (λ e. cc) (s i n refl), t)

-- ---- In the form that the code needs

-- The index of the first of the source's new events that is refused.
abbrev pub first_refused : SessionState → List Event → Option ℕ
first_refused v es = refused_from (length v.walk.events) (ending v.walk) (drop (length v.walk.events) es)

pub taken : (v : SessionState) (w : Walk) (known : ℕ) (es rest : List Event) → w ≡ v.walk → known ≡ length w.events → rest ≡ drop known es → Accepts (ending w) rest → first_refused v es ≡ None
taken v w known es rest a b c h =
    let r : rest ≡ drop (length v.walk.events) es = c ∙ ap (λ n. drop n es) (b ∙ ap (λ (x : Walk). length x.events) a) in
    let P : Walk → Type 0 = λ x. Accepts (ending x) rest in
    refused_none (length v.walk.events) (ending v.walk) (drop (length v.walk.events) es) (subst (Accepts (ending v.walk)) r (subst P a h))

-- The run with the new events.
pub taken_next : (v : SessionState) (w u : Walk) (m : Stops) (known : ℕ) (es rest : List Event) → w ≡ v.walk → known ≡ length w.events → rest ≡ drop known es → u ≡ extended w rest → m ≡ v.stops → (let x : SessionState = record { walk = u; stops = m } in x) ≡ walked_to v (extended v.walk (drop (length v.walk.events) es))
taken_next v w u m known es rest a b c d e =
    let r : rest ≡ drop (length v.walk.events) es = c ∙ ap (λ n. drop n es) (b ∙ ap (λ (x : Walk). length x.events) a) in
    let f : u ≡ extended v.walk (drop (length v.walk.events) es) = d ∙ ap (λ x. extended x rest) a ∙ ap (extended v.walk) r in
    λ i. record { walk = f i; stops = e i }

-- An event was refused, and the reply names it.
pub left : (v : SessionState) (w : Walk) (known : ℕ) (es rest : List Event) (e : ExtendRefusal) (text : List ℕ) → w ≡ v.walk → known ≡ length w.events → rest ≡ drop known es → ((i : ℕ) (n : Refusal) → e ≡ Refused i n → RefusedAt (ending w) rest i n) → RefusalText known e text → (i : ℕ) × (first_refused v es ≡ Some i) × (text ≡ event_text i)
left v w known es rest e text a b c h t =
    let k : known ≡ length v.walk.events = b ∙ ap (λ (x : Walk). length x.events) a in
    let r : rest ≡ drop (length v.walk.events) es = c ∙ ap (λ n. drop n es) k in
    let f = refused_reported known (ending v.walk) (drop (length v.walk.events) es) e text (λ i n q. stops i n (h i n q) r) t in
    (known + f.0, ap (λ n. refused_from n (ending v.walk) (drop (length v.walk.events) es)) (sym k) ∙ f.1, f.2)
  where
    stops : (i : ℕ) (n : Refusal) → RefusedAt (ending w) rest i n → rest ≡ drop (length v.walk.events) es → RefusedAt (ending v.walk) (drop (length v.walk.events) es) i n
    stops i n s r =
        let P : Walk → Type 0 = λ x. RefusedAt (ending x) rest i n in
        let Q : List Event → Type 0 = λ l. RefusedAt (ending v.walk) l i n in
        subst Q r (subst P a s)

pub left_text : (v : SessionState) (es : List Event) (text : List ℕ) → (i : ℕ) × (first_refused v es ≡ Some i) × (text ≡ event_text i) → text ≡ (takes_over v es (first_refused v es)).text
left_text v es text f = f.2 ∙ sym (ap (λ o. (takes_over v es o).text) f.1)

pub left_next : (v : SessionState) (w u : Walk) (m : Stops) (es : List Event) (text : List ℕ) → w ≡ v.walk → u ≡ w → m ≡ v.stops → (i : ℕ) × (first_refused v es ≡ Some i) × (text ≡ event_text i) → (let x : SessionState = record { walk = u; stops = m } in x) ≡ (takes_over v es (first_refused v es)).next
left_next v w u m es text a d e f =
    let g : u ≡ v.walk = d ∙ a in
    let same : (let x : SessionState = record { walk = u; stops = m } in x) ≡ v = λ i. record { walk = g i; stops = e i } in
    same ∙ sym (ap (λ o. (takes_over v es o).next) f.1)
