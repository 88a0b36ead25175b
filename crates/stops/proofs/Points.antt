-- The stop points next to a position.
use Rattle.std.proofs.Common.{◌≡◌, ℕ, ◌+◌, ◌-◌, ◌<◌, ◌≤◌, inl, inr, List, length, Bool, true, false, ◌&&◌, nat_lt, refl, sym, ap, ◌∙◌, subst, arith}
use Rattle.std.specs.Prelude.{unwrap_or, ◌==◌, ◌||◌}
use Rattle.std.specs.List.{range_with_len}
use Rattle.std.proofs.lemmas.Bool.{cases_lt, lt-ltb, le-ltb}
use Rattle.std.proofs.lemmas.Bool.Decides.{nat_tests}
use Rattle.scenario.specs.declared.event.Event.{Event}
use Rattle.stops.specs.declared.steps.EditorThread.{EditorThread}
use Rattle.stops.specs.Nearest.{least, greatest, least_above, greatest_below}
use Rattle.stops.specs.StopPoints.{is_after_step, is_stop_point, next_stop, previous_stop}
use Rattle.stops.proofs.Ranges.{filter_both, first_pass, last_pass, none_pass}

-- Within a run, whether a moment is a stop point depends on the event before it.
pub stop_at : (es : List Event) (t : EditorThread) (m : ℕ) → 0 < m → m < length es → is_stop_point es t m ≡ is_after_step es t m
stop_at es t m a b =
    let first : (m == 0) ≡ false = grind (arith, nat_tests) in
    let last : (m == length es) ≡ false = grind (arith, nat_tests) in
    rw (first, last) refl

pub stop_at_start : (es : List Event) (t : EditorThread) → is_stop_point es t 0 ≡ true
stop_at_start es t = refl

pub stop_at_end : (es : List Event) (t : EditorThread) → is_stop_point es t (length es) ≡ true
stop_at_end es t = by (length es == 0) (let e : (length es == length es) ≡ true = grind (arith, nat_tests) in e)
  where
    by : (b : Bool) → (length es == length es) ≡ true → (b || ((length es == length es) || is_after_step es t (length es))) ≡ true
    by true e = refl
    by false e = rw e refl

both_pass : (a b : Bool) → a ≡ true → b ≡ true → (a && b) ≡ true
both_pass a b e f = rw (e, f) refl

-- The least stop point above a position.
pub next_is : (es : List Event) (t : EditorThread) (at m : ℕ) → at < m → m ≤ length es → is_stop_point es t m ≡ true → ((k : ℕ) → at < k → k < m → is_stop_point es t k ≡ false) → m ≡ next_stop es t at
unfolding next_stop least_above
next_is es t at m a b h g =
    let p : ℕ → Bool = is_stop_point es t in
    sym (ap (λ l. unwrap_or (least l) (length es)) (filter_both p (nat_lt at) (range_with_len 0 (length es + 1)))
    ∙ ap (λ o. unwrap_or o (length es)) (first_pass (λ k. nat_lt at k && p k) 0 (length es + 1) m (omega arith) (omega arith) (both_pass (nat_lt at m) (p m) (lt-ltb at m a) h) (λ k x y. fails k y)))
  where
    fails : (k : ℕ) → k < m → (nat_lt at k && is_stop_point es t k) ≡ false
    fails k y = elim (cases_lt at k) as (λ _. (nat_lt at k && is_stop_point es t k) ≡ false) [
      | inl c ↦ rw (lt-ltb at k c) (g k c y)
      | inr c ↦ rw (le-ltb at k c) refl
    ]

pub next_none : (es : List Event) (t : EditorThread) (at : ℕ) → length es ≤ at → length es ≡ next_stop es t at
unfolding next_stop least_above
next_none es t at h =
    let p : ℕ → Bool = is_stop_point es t in
    sym (ap (λ l. unwrap_or (least l) (length es)) (filter_both p (nat_lt at) (range_with_len 0 (length es + 1)) ∙ none_pass (λ k. nat_lt at k && p k) 0 (length es + 1) (λ k x y. rw (le-ltb at k (omega arith)) refl)))

-- The greatest stop point below a position.
pub previous_is : (es : List Event) (t : EditorThread) (at m : ℕ) → m < at → at ≤ length es → is_stop_point es t m ≡ true → ((k : ℕ) → m < k → k < at → is_stop_point es t k ≡ false) → m ≡ previous_stop es t at
unfolding previous_stop greatest_below
previous_is es t at m a b h g =
    let p : ℕ → Bool = is_stop_point es t in
    sym (ap (λ l. unwrap_or (greatest l) 0) (filter_both p (λ k. nat_lt k at) (range_with_len 0 (length es + 1)))
    ∙ ap (λ o. unwrap_or o 0) (last_pass (λ k. nat_lt k at && p k) 0 (length es + 1) m (omega arith) (omega arith) (both_pass (nat_lt m at) (p m) (lt-ltb m at a) h) (λ k x y. fails k x)))
  where
    fails : (k : ℕ) → m < k → (nat_lt k at && is_stop_point es t k) ≡ false
    fails k x = elim (cases_lt k at) as (λ _. (nat_lt k at && is_stop_point es t k) ≡ false) [
      | inl c ↦ rw (lt-ltb k at c) (g k x c)
      | inr c ↦ rw (le-ltb k at c) refl
    ]

pub previous_none : (es : List Event) (t : EditorThread) (at : ℕ) → at ≡ 0 → 0 ≡ previous_stop es t at
unfolding previous_stop greatest_below
previous_none es t at h =
    let p : ℕ → Bool = is_stop_point es t in
    sym (ap (λ l. unwrap_or (greatest l) 0) (filter_both p (λ k. nat_lt k at) (range_with_len 0 (length es + 1)) ∙ none_pass (λ k. nat_lt k at && p k) 0 (length es + 1) (λ k x y. rw (le-ltb k at (omega arith)) refl)))

-- ---- The loops

-- No stop point was passed on the way up.
abbrev pub PassedUp : List Event → EditorThread → ℕ → ℕ → Type 0
PassedUp es t at passed = (k : ℕ) → at < k → k ≤ passed → k < length es → is_stop_point es t k ≡ false

pub passed_up_more : (es : List Event) (t : EditorThread) (at passed : ℕ) → PassedUp es t at passed → is_after_step es t (passed + 1) ≡ false → PassedUp es t at (passed + 1)
passed_up_more es t at passed h g k a b c = elim (cases_lt passed k) as (λ _. is_stop_point es t k ≡ false) [
  | inl d ↦ let e : passed + 1 ≡ k = omega arith in stop_at es t k (omega arith) c ∙ subst (λ (n : ℕ). is_after_step es t n ≡ false) e g
  | inr d ↦ h k a d c
]

pub next_found : (es : List Event) (t : EditorThread) (at passed : ℕ) → at ≤ passed → passed < length es → PassedUp es t at passed → is_after_step es t (passed + 1) ≡ true → passed + 1 ≡ next_stop es t at
next_found es t at passed a b h g = next_is es t at (passed + 1) (omega arith) (omega arith) there (λ k x y. h k x (omega arith) (omega arith))
  where
    there : is_stop_point es t (passed + 1) ≡ true
    there = elim (cases_lt (passed + 1) (length es)) as (λ _. is_stop_point es t (passed + 1) ≡ true) [
      | inl d ↦ stop_at es t (passed + 1) (omega arith) d ∙ g
      | inr d ↦ let e : length es ≡ passed + 1 = omega arith in subst (λ (n : ℕ). is_stop_point es t n ≡ true) e (stop_at_end es t)
    ]

pub next_end : (es : List Event) (t : EditorThread) (at passed : ℕ) → length es ≤ passed → PassedUp es t at passed → length es ≡ next_stop es t at
next_end es t at passed a h = elim (cases_lt at (length es)) as (λ _. length es ≡ next_stop es t at) [
  | inl d ↦ next_is es t at (length es) d (omega arith) (stop_at_end es t) (λ k x y. h k x (omega arith) y)
  | inr d ↦ next_none es t at d
]

-- No stop point was passed on the way down.
abbrev pub PassedDown : List Event → EditorThread → ℕ → ℕ → Type 0
PassedDown es t at m = (k : ℕ) → m ≤ k → k < at → is_stop_point es t k ≡ false

pub passed_down_more : (es : List Event) (t : EditorThread) (at m : ℕ) → at ≤ length es → 1 < m → m ≤ at → PassedDown es t at m → is_after_step es t (m - 1) ≡ false → PassedDown es t at (m - 1)
passed_down_more es t at m l some b h g k x y = elim (cases_lt k m) as (λ _. is_stop_point es t k ≡ false) [
  | inl d ↦ let e : m - 1 ≡ k = omega arith in stop_at es t k (omega arith) (omega arith) ∙ subst (λ (n : ℕ). is_after_step es t n ≡ false) e g
  | inr d ↦ h k d y
]

pub previous_found : (es : List Event) (t : EditorThread) (at m : ℕ) → at ≤ length es → 1 < m → m ≤ at → PassedDown es t at m → is_after_step es t (m - 1) ≡ true → m - 1 ≡ previous_stop es t at
previous_found es t at m l some b h g =
    previous_is es t at (m - 1) (omega arith) l (stop_at es t (m - 1) (omega arith) (omega arith) ∙ g) (λ k x y. h k (omega arith) y)

pub previous_start : (es : List Event) (t : EditorThread) (at m : ℕ) → at ≤ length es → m ≤ 1 → PassedDown es t at m → 0 ≡ previous_stop es t at
previous_start es t at m l a h = elim (cases_lt 0 at) as (λ _. 0 ≡ previous_stop es t at) [
  | inl d ↦ previous_is es t at 0 d l refl (λ k x y. h k (omega arith) y)
  | inr d ↦ previous_none es t at (omega arith)
]
