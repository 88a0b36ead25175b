-- What a submission does next.
use Rattle.std.proofs.Common.{◌≡◌, ℕ, zero, suc, ◌+◌, ◌-◌, ◌<◌, ◌≤◌, Bool, true, false, refl, sym, ◌∙◌, subst, inl, inr, ◌⊎◌, arith, length}
use Rattle.std.specs.Prelude.{◌≢◌, Option, Some, None, is_none, ◌&&◌, if◌then◌else◌, slice_get}
use Rattle.std.proofs.lemmas.Bool.{and_parts, cases_lt}
use Rattle.std.proofs.lemmas.Option.{slice_get_past, slice_get_within}
use Rattle.entries.specs.declared.row.Row.{Row}
use Rattle.entries.specs.declared.choice.Choice.TheVariants.{Full}
use Rattle.links_drains.specs.Numbered.{IsNextWhere, NoneWhere}
use Rattle.links_drains.specs.Units.{is_open}
use Rattle.scenario.specs.declared.event.Event.{Event}
use Rattle.scenario.specs.declared.event.Event.TheVariants.{Issue, Finish}
use Rattle.scenario.specs.declared.event.Refusal.{Refusal}
use Rattle.machine.specs.declared.whole.Machine.{Machine}
use Rattle.machine.specs.Steps.{refusal}
use Rattle.quiescence.specs.Over.{IsActive}
use Rattle.quiescence.proofs.Closed.{closed_at_rest}
use Rattle.prompt_order.specs.Prompt.{is_inline, may_end, inline_event, prompt_event, begun_by, IsFirstIn, NoneIn, IsDue, NothingDue, IsPromptNext}

-- ---- completed requests

not_none : (o : Option Refusal) → o ≢ None → is_none o ≡ false
not_none None h = absurd (h refl)
not_none (Some x) h = refl

neither : (i x f : Bool) (a b : Option Event) → i ≡ false → f ≡ false → (if i then a else if x && f then b else None) ≡ None
neither true x f a b h k = absurd cc
neither false true true a b h k = absurd cc
neither false true false a b h k = refl
neither false false f a b h k = refl

picked_none : (b : Bool) (o : Option Event) → o ≡ None → (if b then o else None) ≡ None
picked_none true o h = h
picked_none false o h = refl

picked_some : (b : Bool) (o : Option Event) (e : Event) → (if b then o else None) ≡ Some e → o ≡ Some e
picked_some true o e h = h
picked_some false o e h = absurd cc

-- Nothing happens to a completed request, nor to one that isn't there.
closed_still : (m : Machine) (r : ℕ) → ((row : Row) → slice_get m.table r ≡ Some row → is_open row ≡ false) → inline_event m r ≡ None
unfolding inline_event
closed_still m r closed =
    let rest = closed_at_rest m r closed in
    neither (is_none (refusal m (Issue r))) _ (is_none (refusal m (Finish r Full))) (Some (Issue r)) (Some (Finish r Full)) (not_none _ rest.issue) (not_none _ (rest.finish Full))

pub closed_quiet : (turn : Bool) (m : Machine) (r : ℕ) → ((row : Row) → slice_get m.table r ≡ Some row → is_open row ≡ false) → prompt_event turn m r ≡ None
unfolding prompt_event
closed_quiet true m r closed = picked_none (is_inline m r) (inline_event m r) (closed_still m r closed)
closed_quiet false m r closed = closed_still m r closed

pub absent_quiet : (turn : Bool) (m : Machine) (r : ℕ) → length m.table ≤ r → prompt_event turn m r ≡ None
absent_quiet turn m r high = closed_quiet turn m r (λ row there. let no : None ≡ Some row = sym (slice_get_past m.table r high) ∙ there in absurd cc)

-- What the second turn leaves out, the first does.
left_out : (m : Machine) (r : ℕ) → prompt_event false m r ≡ None → prompt_event true m r ≡ None
unfolding prompt_event
left_out m r h = picked_none (is_inline m r) (inline_event m r) h

-- ---- the requests from a number on

pub quiet_before : (turn : Bool) (m : Machine) (from mid r : ℕ) → ((k : ℕ) → from ≤ k → k < mid → prompt_event turn m k ≡ None) → IsNextWhere is_open m.table mid r → (k : ℕ) → from ≤ k → k < r → prompt_event turn m k ≡ None
quiet_before turn m from mid r before next k low less = elim (cases_lt k mid) [
  | inl earlier ↦ before k low earlier
  | inr high ↦ closed_quiet turn m k (λ row there. next.least k row high less there)
]

pub quiet_with : (turn : Bool) (m : Machine) (from r : ℕ) → ((k : ℕ) → from ≤ k → k < r → prompt_event turn m k ≡ None) → prompt_event turn m r ≡ None → (k : ℕ) → from ≤ k → k < r + 1 → prompt_event turn m k ≡ None
quiet_with turn m from r before here k low less = elim (cases_lt k r) [
  | inl earlier ↦ before k low earlier
  | inr high ↦ let same : r ≡ k = omega (arith, less, high) in subst (λ (n : ℕ). prompt_event turn m n ≡ None) same here
]

pub none_in : (turn : Bool) (m : Machine) (from mid : ℕ) → ((k : ℕ) → from ≤ k → k < mid → prompt_event turn m k ≡ None) → NoneWhere is_open m.table mid → NoneIn turn m from
none_in turn m from mid before none k low = elim (cases_lt k mid) [
  | inl earlier ↦ before k low earlier
  | inr high ↦ closed_quiet turn m k (λ row there. none k row high there)
]

pub row_there : (m : Machine) (mid r : ℕ) → IsNextWhere is_open m.table mid r → r < length m.table
row_there m mid r next = slice_get_within m.table r next.row next.there

-- ---- one event is due at most

some_not_none : {A : Type 0} (o : Option A) (x : A) → o ≡ None → o ≡ Some x → ⊥
some_not_none o x h k = let no : None ≡ Some x = sym h ∙ k in absurd cc

first_row : (turn : Bool) (m : Machine) (from a b : ℕ) (e f : Event) → IsFirstIn turn m from a e → IsFirstIn turn m from b f → a ≡ b
first_row turn m from a b e f h k = elim (cases_lt a b) [
  | inl less ↦ absurd (some_not_none (prompt_event turn m a) e (k.first a h.within less) h.event)
  | inr high ↦ elim (cases_lt b a) [
    | inl more ↦ absurd (some_not_none (prompt_event turn m b) f (h.first b k.within more) k.event)
    | inr low ↦ omega (arith, high, low)
  ]
]

first_event : (turn : Bool) (m : Machine) (from a b : ℕ) (e f : Event) → IsFirstIn turn m from a e → IsFirstIn turn m from b f → e ≡ f
first_event turn m from a b e f h k =
    let there : prompt_event turn m b ≡ Some e = subst (λ (n : ℕ). prompt_event turn m n ≡ Some e) (first_row turn m from a b e f h k) h.event in
    let same : Some e ≡ Some f = sym there ∙ k.event in cc

none_first : (turn : Bool) (m : Machine) (from r : ℕ) (e : Event) → NoneIn turn m from → IsFirstIn turn m from r e → ⊥
none_first turn m from r e none h = some_not_none (prompt_event turn m r) e (none r h.within) h.event

pub same_row : (m : Machine) (from a b : ℕ) (e f : Event) → IsDue m from a e → IsDue m from b f → a ≡ b
same_row m from a b e f (inl h) (inl k) = first_row true m from a b e f h k
same_row m from a b e f (inl h) (inr k) = absurd (none_first true m from a e k.0 h)
same_row m from a b e f (inr h) (inl k) = absurd (none_first true m from b f h.0 k)
same_row m from a b e f (inr h) (inr k) = first_row false m from a b e f h.1 k.1

pub same_event : (m : Machine) (from a b : ℕ) (e f : Event) → IsDue m from a e → IsDue m from b f → e ≡ f
same_event m from a b e f (inl h) (inl k) = first_event true m from a b e f h k
same_event m from a b e f (inl h) (inr k) = absurd (none_first true m from a e k.0 h)
same_event m from a b e f (inr h) (inl k) = absurd (none_first true m from b f h.0 k)
same_event m from a b e f (inr h) (inr k) = first_event false m from a b e f h.1 k.1

pub due_or_not : (m : Machine) (from r : ℕ) (e : Event) → IsDue m from r e → NothingDue m from → ⊥
due_or_not m from r e (inl h) none = some_not_none (prompt_event true m r) e (left_out m r (none r h.within)) h.event
due_or_not m from r e (inr h) none = none_first false m from r e none h.1

pub one_way : (m : Machine) (from a b : ℕ) (e : Event) → IsPromptNext m from e a → IsPromptNext m from e b → a ≡ b
one_way m from a b e (inl h) (inl k) = h.2 ∙ sym k.2
one_way m from a b e (inl h) (inr k) = absurd (due_or_not m from h.0 e h.1 k.0)
one_way m from a b e (inr h) (inl k) = absurd (due_or_not m from k.0 e k.1 h.0)
one_way m from a b e (inr h) (inr k) = h.1 ∙ sym k.1

-- ---- what is due is accepted

pub none_of : (o : Option Refusal) → is_none o ≡ true → o ≡ None
none_of None h = refl
none_of (Some x) h = absurd cc

inline_active : (m : Machine) (r : ℕ) (e : Event) → inline_event m r ≡ Some e → IsActive m e
unfolding inline_event
inline_active m r e h = by (is_none (refusal m (Issue r))) (may_end m r) refl refl h
  where
    by : (i x : Bool) → is_none (refusal m (Issue r)) ≡ i → may_end m r ≡ x → (if i then Some (Issue r) else if x then Some (Finish r Full) else None) ≡ Some e → IsActive m e
    by true x p q h =
        let is : Issue r ≡ e = cc in
        subst (λ (f : Event). IsActive m f) is (record { accepted = none_of _ p; busy = λ idle. idle })
    by false true p q h =
        let is : Finish r Full ≡ e = cc in
        subst (λ (f : Event). IsActive m f) is (record { accepted = none_of _ (and_parts _ _ q).1; busy = λ idle. idle })
    by false false p q h = absurd cc

event_active : (turn : Bool) (m : Machine) (r : ℕ) (e : Event) → prompt_event turn m r ≡ Some e → IsActive m e
unfolding prompt_event
event_active true m r e h = inline_active m r e (picked_some (is_inline m r) (inline_event m r) e h)
event_active false m r e h = inline_active m r e h

pub due_active : (m : Machine) (from r : ℕ) (e : Event) → IsDue m from r e → IsActive m e
due_active m from r e (inl h) = event_active true m r e h.event
due_active m from r e (inr h) = event_active false m r e h.1.event

-- ---- either one is due or none

abbrev FoundBelow : Bool → Machine → ℕ → ℕ → Type 0
FoundBelow turn m from n =
    ((r : ℕ) × (e : Event) × IsFirstIn turn m from r e) ⊎ ((k : ℕ) → from ≤ k → k < from + n → prompt_event turn m k ≡ None)

one_more : (turn : Bool) (m : Machine) (from n : ℕ) (o : Option Event) → prompt_event turn m (from + n) ≡ o → ((k : ℕ) → from ≤ k → k < from + n → prompt_event turn m k ≡ None) → FoundBelow turn m from (suc n)
one_more turn m from n (Some e) is before = inl (from + n, e, record { within = omega arith; event = is; first = before })
one_more turn m from n None is before = inr (λ k low less. quiet_with turn m from (from + n) before is k low (omega (arith, less)))

found_below : (turn : Bool) (m : Machine) (from n : ℕ) → FoundBelow turn m from n
found_below turn m from zero = inr (λ k low less. absurd (omega (arith, low, less)))
found_below turn m from (suc n) = elim (found_below turn m from n) [
  | inl first ↦ inl first
  | inr before ↦ one_more turn m from n (prompt_event turn m (from + n)) refl before
]

found_in : (turn : Bool) (m : Machine) (from : ℕ) → ((r : ℕ) × (e : Event) × IsFirstIn turn m from r e) ⊎ NoneIn turn m from
found_in turn m from = elim (found_below turn m from (length m.table)) [
  | inl first ↦ inl first
  | inr before ↦ inr (λ k low. elim (cases_lt k (from + length m.table)) [
    | inl less ↦ before k low less
    | inr high ↦ absent_quiet turn m k (omega (arith, high))
  ])
]

pub decided : (m : Machine) (from : ℕ) → ((r : ℕ) × (e : Event) × IsDue m from r e) ⊎ NothingDue m from
decided m from = elim (found_in true m from) [
  | inl first ↦ inl (first.0, first.1, inl first.2)
  | inr none ↦ elim (found_in false m from) [
    | inl second ↦ inl (second.0, second.1, inr (none, second.2))
    | inr nothing ↦ inr nothing
  ]
]

pub goes_on : (m : Machine) (from : ℕ) (e : Event) → IsActive m e → (f : Event) × (next : ℕ) × IsActive m f × IsPromptNext m from f next
goes_on m from e active = elim (decided m from) [
  | inl due ↦ (due.1, from, due_active m from due.0 due.1 due.2, inl (due.0, due.2, refl))
  | inr none ↦ (e, begun_by m e, active, inr (none, refl))
]
