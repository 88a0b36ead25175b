-- The first moment at which goals are reached.
use Rattle.std.proofs.Common.{◌≡◌, ℕ, ◌+◌, ◌-◌, ◌≤◌, ◌<◌, Bool, true, false, List, [], ◌∷◌, length, take, refl, sym, ap, ◌∙◌, subst, arith, inl, inr}
use Rattle.std.specs.Prelude.{Option, Some, None, is_some, ◌||◌}
use Rattle.std.specs.Bool.{MatchBool}
use Rattle.std.specs.List.{list_any, AllWithin, HoldsAt}
use Rattle.std.proofs.lemmas.Bool.{cases_order}
use Rattle.std.proofs.lemmas.List.{take_all}
use Rattle.std.proofs.lemmas.List.Elements.{All-nil, All-cons, All-head, All-tail, All-from_all_within}
use Rattle.places.specs.declared.place.Place.{Place}
use Rattle.places.specs.declared.value.Value.{Value}
use Rattle.places.specs.declared.value.Change.{Change}
use Rattle.places.specs.View.{View, Exact, named}
use Rattle.scenario.specs.declared.event.Event.{Event}
use Rattle.scenario.specs.declared.setup.Setup.{Setup}
use Rattle.machine.specs.declared.whole.Machine.{Machine}
use Rattle.machine.specs.Whole.{view}
use Rattle.machine.specs.Runs.{start, run, moment as machine_at}
use Rattle.runs.specs.Moments.{IsAfter}
use Rattle.symptoms.specs.declared.symptom.Goal.{Goal}
use Rattle.symptoms.specs.Symptoms.{HoldAll, Took, TakesAt}
use Rattle.symptoms.specs.Reaching.{first_of, IsFirstUpTo, HasLooked}

-- ---- goals

abbrev pub Holds : View → Goal → Type 0
Holds v g = v g.place ≡ Some g.value

-- Whether all goals hold, from a test of each.
pub hold_cases : (v : View) (gs : List Goal) (b : Bool) → MatchBool b (AllWithin (Holds v) gs 0 (length gs)) ((k : ℕ) × (k < length gs) × HoldsAt (λ g. Holds v g → ⊥) gs k) → MatchBool b (HoldAll v gs) (HoldAll v gs → ⊥)
hold_cases v gs true h = All-from_all_within (Holds v) gs h
hold_cases v [] false h = absurd (omega (arith, h.1))
hold_cases v (g ∷ gs) false h = λ all. h.2 g (all h.0 g h.1)

-- ---- one event

unnamed : (o : Option (Option Value)) → is_some o ≡ false → o ≡ None
unnamed None h = refl
unnamed (Some x) h = cc

-- A place that the record doesn't name has the value that it had.
same_at : (old new : View) (cs : List Change) (p : Place) → Exact old new cs → is_some (named cs p) ≡ false → old p ≡ new p
same_at old new cs p x h = x.same p (unnamed (named cs p) h)

differs_by : (old new : View) (cs : List Change) (p : Place) → Exact old new cs → (o : Option (Option Value)) → named cs p ≡ o → is_some o ≡ true → old p ≡ new p → ⊥
differs_by old new cs p x None e h same = cc
differs_by old new cs p x (Some y) e h same = (x.differs p y e).1 same

-- A place that the record names has another value than before.
differs_at : (old new : View) (cs : List Change) (p : Place) → Exact old new cs → is_some (named cs p) ≡ true → old p ≡ new p → ⊥
differs_at old new cs p x h = differs_by old new cs p x (named cs p) refl h

abbrev names : List Change → Goal → Bool
names cs g = is_some (named cs g.place)

neither : (a b : Bool) → (a || b) ≡ false → (a ≡ false) × (b ≡ false)
neither true b h = cc
neither false b h = (refl, h)

-- If the record names no goal's place, the goals that hold did before.
held_before : (old new : View) (cs : List Change) (gs : List Goal) → Exact old new cs → list_any (names cs) gs ≡ false → HoldAll new gs → HoldAll old gs
held_before old new cs [] x h here = All-nil (Holds old)
held_before old new cs (g ∷ gs) x h here =
    let both = neither (names cs g) (list_any (names cs) gs) h in
    All-cons (Holds old) g gs (same_at old new cs g.place x both.0 ∙ All-head (Holds new) g gs here) (held_before old new cs gs x both.1 (All-tail (Holds new) g gs here))

named_first : (old new : View) (cs : List Change) (g : Goal) (gs : List Goal) (b : Bool) → names cs g ≡ b → (b || list_any (names cs) gs) ≡ true → Exact old new cs → HoldAll new (g ∷ gs) → HoldAll old (g ∷ gs) → (list_any (names cs) gs ≡ true → HoldAll new gs → HoldAll old gs → ⊥) → ⊥
named_first old new cs g gs true e h x here before more = differs_at old new cs g.place x e (All-head (Holds old) g gs before ∙ sym (All-head (Holds new) g gs here))
named_first old new cs g gs false e h x here before more = more h (All-tail (Holds new) g gs here) (All-tail (Holds old) g gs before)

-- If the record names a goal's place, the goals that all hold didn't all hold before.
not_before : (old new : View) (cs : List Change) (gs : List Goal) → Exact old new cs → list_any (names cs) gs ≡ true → HoldAll new gs → HoldAll old gs → ⊥
not_before old new cs [] x h here before = cc
not_before old new cs (g ∷ gs) x h here before = named_first old new cs g gs (names cs g) refl h x here before (λ k. not_before old new cs gs x k)

-- What a record and the values say about one event.
pub took_unnamed : (old new : View) (cs : List Change) (gs : List Goal) → Exact old new cs → list_any (names cs) gs ≡ false → MatchBool false (Took old new gs) (Took old new gs → ⊥)
took_unnamed old new cs gs x h = λ t. t.before (held_before old new cs gs x h t.here)

pub took_named : (old new : View) (cs : List Change) (gs : List Goal) (b : Bool) → Exact old new cs → list_any (names cs) gs ≡ true → MatchBool b (HoldAll new gs) (HoldAll new gs → ⊥) → MatchBool b (Took old new gs) (Took old new gs → ⊥)
took_named old new cs gs true x h said = record { here = said; before = not_before old new cs gs x h said }
took_named old new cs gs false x h said = λ t. said t.here

-- ---- more events

-- Event i leads to moment i + 1.
said_at : (s : Setup) (es : List Event) (i : ℕ) (gs : List Goal) (n : Machine) (b : Bool) → n ≡ machine_at s es (i + 1) → MatchBool b (Took (view (machine_at s es i)) (view n) gs) (Took (view (machine_at s es i)) (view n) gs → ⊥) → MatchBool b (TakesAt s es gs (i + 1)) (TakesAt s es gs (i + 1) → ⊥)
said_at s es i gs n b here h =
    let back : i ≡ i + 1 - 1 = omega arith in
    let P : ℕ → Type 0 = λ k. MatchBool b (Took (view (machine_at s es k)) (view (machine_at s es (i + 1))) gs) (Took (view (machine_at s es k)) (view (machine_at s es (i + 1))) gs → ⊥) in
    let Q : Machine → Type 0 = λ x. MatchBool b (Took (view (machine_at s es i)) (view x) gs) (Took (view (machine_at s es i)) (view x) gs → ⊥) in
    subst P back (subst Q here h)

none_more : (T : ℕ → Type 0) (i : ℕ) → ((m : ℕ) → m ≤ i → T m → ⊥) → (T (i + 1) → ⊥) → (m : ℕ) → m ≤ i + 1 → T m → ⊥
none_more T i none next m le t =
    elim (cases_order m (i + 1)) [ inl same ↦ next (subst T same t) | inr o ↦ elim o [ inl under ↦ none m (omega arith) t | inr over ↦ absurd (omega (arith, le, over)) ] ]

least_next : (T : ℕ → Type 0) (i : ℕ) → ((m : ℕ) → m ≤ i → T m → ⊥) → (m : ℕ) → T m → i + 1 ≤ m
least_next T i none m t =
    elim (cases_order m (i + 1)) [ inl same ↦ omega arith | inr o ↦ elim o [ inl under ↦ absurd (none m (omega arith) t) | inr over ↦ omega (arith, over) ] ]

-- The first moment so far, after one more event.
first_more : (s : Setup) (es : List Event) (i : ℕ) (gs : List Goal) (o : Option ℕ) (b : Bool) → IsFirstUpTo s es i gs o → MatchBool b (TakesAt s es gs (i + 1)) (TakesAt s es gs (i + 1) → ⊥) → IsFirstUpTo s es (i + 1) gs (first_of o b (i + 1))
first_more s es i gs (Some k) b h t = h
first_more s es i gs None true h t = (t, least_next (TakesAt s es gs) i h)
first_more s es i gs None false h t = none_more (TakesAt s es gs) i h t

pub looked_more : (s : Setup) (es : List Event) (i : ℕ) (e : Event) (past : List Change) (n : Machine) (gs : List Goal) (o new : Option ℕ) (b : Bool) → IsAfter s es i e past n → ((old : View) → Exact old (view n) past → MatchBool b (Took old (view n) gs) (Took old (view n) gs → ⊥)) → HasLooked s es i gs o → new ≡ first_of o b (i + 1) → HasLooked s es (i + 1) gs new
looked_more s es i e past n gs o new b a said h same = record {
  most = h.most;
  first = subst (IsFirstUpTo s es (i + 1) gs) (sym same) (first_more s es i gs o b h.first (said_at s es i gs n b a.at.here (said (view (machine_at s es i)) a.exact)));
}

-- ---- the start and the end of a run

-- At the start no goals have been reached.
first_none : (s : Setup) (es : List Event) (gs : List Goal) → IsFirstUpTo s es 0 gs None
first_none s es gs = λ m le t.
    let none : m ≡ m - 1 = omega (arith, le) in
    t.before (subst (λ (k : ℕ). HoldAll (view (machine_at s es k)) gs) none t.here)

pub looked_none : (s : Setup) (es : List Event) (gs : List Goal) → length es ≤ 1048576 → HasLooked s es 0 gs None
looked_none s es gs most = record { most = most; first = first_none s es gs }

-- From the end on nothing changes, so goals are reached at a moment of the run, if at all.
pub within_run : (s : Setup) (es : List Event) (gs : List Goal) → ((m : ℕ) → m ≤ length es → TakesAt s es gs m → ⊥) → (m : ℕ) → TakesAt s es gs m → ⊥
within_run s es gs none m t =
    elim (cases_order m (length es)) [
      | inl same ↦ none m (omega arith) t
      | inr o ↦ elim o [
        | inl under ↦ none m (omega arith) t
        | inr over ↦
            let before : take (m - 1) es ≡ es = take_all (m - 1) es (omega (arith, over)) in
            let after : take m es ≡ es = take_all m es (omega (arith, over)) in
            t.before (subst (λ (fs : List Event). HoldAll (view (run (start s) fs)) gs) (after ∙ sym before) t.here)
      ]
    ]
