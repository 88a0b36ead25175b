-- Sets of bytes, one for each object, that a search marks.
use Rattle.findings.proofs.Common.{◌≡◌, ℕ, zero, suc, ◌+◌, ◌-◌, ◌<◌, ◌≤◌, Bool, true, false, cond, not, List, [], ◌∷◌, ◌++◌, length, get_or, set, refl, MatchBool, Option, Some, None, slice_get, nat_lt, nat_le, ◌==◌, ◌&&◌, ◌||◌, option_map_or, has, IsNext, NoneFrom, FileByte, DurableByte, Machine, view, byte_in, differ, Fsync, Written, inl, inr, length-append, sym, ap, ◌∙◌, subst, arith, cases_eq, cases_lt, and_left, and_right, and_from, and_parts, lt-ltb, ltb-true, leb-true, le-leb, eq-eqb, ne_eqb, nat_tests, slice_get_read, slice_get_past, has_past, clash, is_within, moves, is_marked, is_fsync_of, SaysMarked}
use Rattle.finding_rules.proofs.Between.{marked_none}
pub use Rattle.finding_rules.proofs.Between.{marked_in}

or_false : (a b : Bool) → b ≡ false → a ≡ (a || b)
or_false true b e = refl
or_false false b e = sym e

-- ---- one set of a list

pub marked_past : (sets : List (List ℕ)) (o k : ℕ) → length sets ≤ o → is_marked sets o k ≡ false
marked_past sets o k l = ap (λ (x : Option (List ℕ)). option_map_or (λ (words : List ℕ). has words k) x false) (slice_get_past sets o l)

pub marked_read : (sets : List (List ℕ)) (o k : ℕ) (words : List ℕ) → o < length sets → words ≡ get_or sets o words → is_marked sets o k ≡ has words k
marked_read sets o k words l e = marked_in sets o k words (slice_get_read sets (length sets) o words refl l e)

marked_same : (sets : List (List ℕ)) (o k : ℕ) (words : List ℕ) → o < length sets → is_marked (set sets o words) o k ≡ has words k
marked_same [] o k words l = absurd (omega arith)
marked_same (x ∷ sets) zero k words l = refl
marked_same (x ∷ sets) (suc o) k words l = marked_same sets o k words (omega arith)

marked_other : (sets : List (List ℕ)) (o p k : ℕ) (words : List ℕ) → (p ≡ o → ⊥) → is_marked (set sets o words) p k ≡ is_marked sets p k
marked_other [] o p k words d = refl
marked_other (x ∷ sets) zero zero k words d = absurd (d refl)
marked_other (x ∷ sets) zero (suc p) k words d = refl
marked_other (x ∷ sets) (suc o) zero k words d = refl
marked_other (x ∷ sets) (suc o) (suc p) k words d = marked_other sets o p k words (λ e. d (ap suc e))

pub marked_last : (sets : List (List ℕ)) (k : ℕ) (words : List ℕ) → is_marked (sets ++ words ∷ []) (length sets) k ≡ has words k
marked_last [] k words = refl
marked_last (x ∷ sets) k words = marked_last sets k words

pub marked_before : (sets : List (List ℕ)) (o k : ℕ) (words : List ℕ) → o < length sets → is_marked (sets ++ words ∷ []) o k ≡ is_marked sets o k
marked_before [] o k words l = absurd (omega arith)
marked_before (x ∷ sets) zero k words l = refl
marked_before (x ∷ sets) (suc o) k words l = marked_before sets o k words (omega arith)

-- One more set, for the next object, whose bytes pass a test.
pub marked_more : (sets now : List (List ℕ)) (words start : List ℕ) (n : ℕ) (test : ℕ → ℕ → Bool) → length sets ≡ n → ((o k : ℕ) → o < n → is_marked sets o k ≡ test o k) → start ≡ []
    → ((k : ℕ) → has words k ≡ (has start k || test n k)) → now ≡ sets ++ words ∷ [] → (length now ≡ n + 1) × ((o k : ℕ) → o < n + 1 → is_marked now o k ≡ test o k)
marked_more sets now words start n test count h none added e = subst (λ (xs : List (List ℕ)). (length xs ≡ n + 1) × ((o k : ℕ) → o < n + 1 → is_marked xs o k ≡ test o k)) (sym e) (omega (arith, length-append sets (words ∷ []), count), each)
  where
    own : (k : ℕ) → has words k ≡ test n k
    own k = added k ∙ ap (λ (b : Bool). b || test n k) (ap (λ (xs : List ℕ). has xs k) none ∙ has_past [] k (omega arith))

    each : (o k : ℕ) → o < n + 1 → is_marked (sets ++ words ∷ []) o k ≡ test o k
    each o k l = elim (cases_lt o n) [
      | inl below ↦ marked_before sets o k words (omega (arith, below, count)) ∙ h o k below
      | inr last ↦
          let same : o ≡ length sets = omega (arith, l, last, count) in
          let here : n ≡ o = omega (arith, l, last) in
          ap (λ (p : ℕ). is_marked (sets ++ words ∷ []) p k) same ∙ marked_last sets k words ∙ own k ∙ ap (λ (p : ℕ). test p k) here
    ]

-- One more empty set.
pub marked_empty : (sets now : List (List ℕ)) (words : List ℕ) (n : ℕ) → length sets ≡ n → ((o k : ℕ) → is_marked sets o k ≡ false) → words ≡ [] → now ≡ sets ++ words ∷ [] → (length now ≡ n + 1) × ((o k : ℕ) → is_marked now o k ≡ false)
marked_empty sets now words n count h none e =
    let more = marked_more sets now words [] n (λ (o k : ℕ). false) count (λ o k l. h o k) refl (λ k. ap (λ (xs : List ℕ). has xs k) none ∙ or_false (has [] k) false refl) e in
    (more.0, λ o k. elim (cases_lt o (n + 1)) [ inl l ↦ more.1 o k l | inr past ↦ marked_past now o k (let len : length now ≡ n + 1 = more.0 in omega (arith, len, past)) ])

pub says_of_set : (test : Bool) (sets : List (List ℕ)) (o : ℕ) (words : List ℕ) → slice_get sets o ≡ Some words → MatchBool test ((k : ℕ) × (has words k ≡ true)) ((k : ℕ) → has words k ≡ false) → SaysMarked test sets o
says_of_set true sets o words e h = (h.0, marked_in sets o h.0 words e ∙ h.1)
says_of_set false sets o words e h = λ k. marked_in sets o k words e ∙ h k

pub says_of_none : (sets : List (List ℕ)) (o : ℕ) → slice_get sets o ≡ None → SaysMarked false sets o
says_of_none sets o e = λ k. marked_none sets o k e

-- ---- changes of one set

and_not_false : (a b : Bool) → b ≡ false → a ≡ (a && not b)
and_not_false true b e = sym (ap not e)
and_not_false false b e = refl

moves_other : (w : Written) (o k : ℕ) → (o ≡ w.file → ⊥) → moves (Some w) o k ≡ false
moves_other w o k d = and_left (w.file == o) (is_within w.first w.count k) (ne_eqb w.file o (λ e. d (sym e)))

moves_own : (w : Written) (o k : ℕ) → o ≡ w.file → moves (Some w) o k ≡ is_within w.first w.count k
moves_own w o k e = ap (λ (b : Bool). b && is_within w.first w.count k) (eq-eqb w.file o (sym e))

-- The bytes that a WRITE moved are removed from the set of its file.
pub marks_removed : (sets : List (List ℕ)) (w : Written) (old new : List ℕ) → w.file < length sets → old ≡ get_or sets w.file old
    → ((k : ℕ) → has new k ≡ (has old k && not (is_within w.first w.count k))) → (o k : ℕ) → is_marked (set sets w.file new) o k ≡ (is_marked sets o k && not (moves (Some w) o k))
marks_removed sets w old new l e h o k = elim (cases_eq o w.file) [
  | inl same ↦
      let before : is_marked sets o k ≡ has old k = ap (λ (p : ℕ). is_marked sets p k) same ∙ marked_read sets w.file k old l e in
      let after : is_marked (set sets w.file new) o k ≡ has new k = ap (λ (p : ℕ). is_marked (set sets w.file new) p k) same ∙ marked_same sets w.file k new l in
      after ∙ h k ∙ ap (λ (b : Bool). b && not (is_within w.first w.count k)) (sym before) ∙ ap (λ (b : Bool). is_marked sets o k && not b) (sym (moves_own w o k same))
  | inr other ↦ marked_other sets w.file o k new other ∙ and_not_false (is_marked sets o k) (moves (Some w) o k) (moves_other w o k other)
]

-- A WRITE to an object without a set.
pub marks_unset : (sets : List (List ℕ)) (w : Written) (o k : ℕ) → length sets ≤ w.file → is_marked sets o k ≡ (is_marked sets o k && not (moves (Some w) o k))
marks_unset sets w o k l = elim (cases_eq o w.file) [
  | inl same ↦
      let none : is_marked sets o k ≡ false = ap (λ (p : ℕ). is_marked sets p k) same ∙ marked_past sets w.file k l in
      none ∙ sym (and_left (is_marked sets o k) (not (moves (Some w) o k)) none)
  | inr other ↦ and_not_false (is_marked sets o k) (moves (Some w) o k) (moves_other w o k other)
]

-- No WRITE.
pub marks_kept : (a : Bool) → a ≡ (a && not false)
marks_kept a = and_not_false a false refl

fsync_other : (x : Fsync) (o : ℕ) (v : Bool) → (o ≡ x.file → ⊥) → (is_fsync_of (Some x) o && v) ≡ false
fsync_other x o v d = and_left (x.file == o) v (ne_eqb x.file o (λ e. d (sym e)))

fsync_own : (x : Fsync) (o : ℕ) (v : Bool) → o ≡ x.file → (is_fsync_of (Some x) o && v) ≡ v
fsync_own x o v e = ap (λ (b : Bool). b && v) (eq-eqb x.file o (sym e))

-- Bytes that pass a test are added to the set of the file of an FSYNC.
pub marks_added : (sets : List (List ℕ)) (x : Fsync) (test : ℕ → ℕ → Bool) (old new : List ℕ) → x.file < length sets → old ≡ get_or sets x.file old
    → ((k : ℕ) → has new k ≡ (has old k || test x.file k)) → (o k : ℕ) → is_marked (set sets x.file new) o k ≡ (is_marked sets o k || (is_fsync_of (Some x) o && test o k))
marks_added sets x test old new l e h o k = elim (cases_eq o x.file) [
  | inl same ↦
      let before : is_marked sets o k ≡ has old k = ap (λ (p : ℕ). is_marked sets p k) same ∙ marked_read sets x.file k old l e in
      let after : is_marked (set sets x.file new) o k ≡ has new k = ap (λ (p : ℕ). is_marked (set sets x.file new) p k) same ∙ marked_same sets x.file k new l in
      after ∙ h k ∙ ap (λ (b : Bool). b || test x.file k) (sym before) ∙ ap (λ (p : ℕ). is_marked sets o k || test p k) (sym same)
      ∙ ap (λ (b : Bool). is_marked sets o k || b) (sym (fsync_own x o (test o k) same))
  | inr other ↦ marked_other sets x.file o k new other ∙ or_false (is_marked sets o k) (is_fsync_of (Some x) o && test o k) (fsync_other x o (test o k) other)
]

-- An FSYNC of an object without a set.
pub marks_without : (sets : List (List ℕ)) (x : Fsync) (test : ℕ → ℕ → Bool) (o k : ℕ) → length sets ≤ x.file → o < length sets → is_marked sets o k ≡ (is_marked sets o k || (is_fsync_of (Some x) o && test o k))
marks_without sets x test o k l b = or_false (is_marked sets o k) (is_fsync_of (Some x) o && test o k) (fsync_other x o (test o k) (λ e. let same : o ≡ x.file = e in absurd (omega (arith, same, l, b))))

-- No FSYNC.
pub marks_same : (a : Bool) → a ≡ (a || false)
marks_same a = or_false a false refl

-- Both changes of an event.
pub marks_both : (a b c w f : Bool) → b ≡ (a && not w) → c ≡ (b || f) → c ≡ ((a && not w) || f)
marks_both a b c w f e h = h ∙ ap (λ (x : Bool). x || f) e

-- ---- removing a range

-- The sets agree outside the range.
abbrev pub AgreeOutside : ℕ → ℕ → List ℕ → List ℕ → Type 0
AgreeOutside first count old now = (k : ℕ) → is_within first count k ≡ false → has now k ≡ has old k

within : (first count k : ℕ) → first ≤ k → k - first < count → is_within first count k ≡ true
within first count k l m = and_from (nat_le first k) (nat_lt k (first + count)) (le-leb first k l) (lt-ltb k (first + count) (omega (arith, l, m)))

pub range_less : (first count byte : ℕ) (old now new : List ℕ) → AgreeOutside first count old now → first ≤ byte → byte - first < count
    → ((k : ℕ) → has new k ≡ cond (k == byte) false (has now k)) → AgreeOutside first count old new
range_less first count byte old now new same l m h k outside =
    let other : k ≡ byte → ⊥ = λ e. clash (sym outside ∙ ap (is_within first count) e ∙ within first count byte l m) in
    h k ∙ ap (λ (b : Bool). cond b false (has now k)) (ne_eqb k byte other) ∙ same k outside

range_gone : (first count : ℕ) (old now : List ℕ) → AgreeOutside first count old now → ((k : ℕ) → is_within first count k ≡ true → has now k ≡ false) → (k : ℕ) → has now k ≡ (has old k && not (is_within first count k))
range_gone first count old now same gone k = by (is_within first count k) refl
  where
    by : (b : Bool) → is_within first count k ≡ b → has now k ≡ (has old k && not b)
    by true e = gone k e ∙ sym (and_right (has old k) false refl)
    by false e = same k e ∙ and_not_false (has old k) false refl

pub range_end : (first count byte : ℕ) (old now : List ℕ) → AgreeOutside first count old now → IsNext now first byte → count ≤ byte - first → (k : ℕ) → has now k ≡ (has old k && not (is_within first count k))
range_end first count byte old now same next l = range_gone first count old now same (λ k e.
    let parts = and_parts (nat_le first k) (nat_lt k (first + count)) e in
    let low : first ≤ k = leb-true first k parts.0 in
    let high : k < first + count = ltb-true k (first + count) parts.1 in
    next.least k low (omega (arith, low, high, l, next.after)))

pub range_none : (first count : ℕ) (old now : List ℕ) → AgreeOutside first count old now → NoneFrom now first → (k : ℕ) → has now k ≡ (has old k && not (is_within first count k))
range_none first count old now same none = range_gone first count old now same (λ k e.
    none k (leb-true first k (and_parts (nat_le first k) (nat_lt k (first + count)) e).0))

abbrev one_if : Bool → ℕ
one_if true = 1
one_if false = 0

-- How many numbers below n are in a set.
pub members : List ℕ → ℕ → ℕ
members words zero = zero
members words (suc n) = members words n + one_if (has words n)

members_same : (old new : List ℕ) (n : ℕ) → ((k : ℕ) → k < n → has new k ≡ has old k) → members new n ≡ members old n
unfolding members
members_same old new zero h = refl
members_same old new (suc n) h =
    let rest : members new n ≡ members old n = members_same old new n (λ k l. h k (omega arith)) in
    ap (λ (m : ℕ). m + one_if (has new n)) rest ∙ ap (λ (b : Bool). members old n + one_if b) (h n (omega arith))

-- Removing a number makes them fewer.
pub members_less : (old new : List ℕ) (byte n : ℕ) → byte < n → has old byte ≡ true → ((k : ℕ) → has new k ≡ cond (k == byte) false (has old k)) → members new n < members old n
unfolding members
members_less old new byte zero l there h = absurd (omega arith)
members_less old new byte (suc n) l there h = elim (cases_eq n byte) [
  | inl same ↦
      let rest : members new n ≡ members old n = members_same old new n (λ k b. h k ∙ ap (λ (t : Bool). cond t false (has old k)) (ne_eqb k byte (λ e. let bad : k ≡ byte = e in absurd (omega (arith, bad, b, same))))) in
      let gone : one_if (has new n) ≡ 0 = ap one_if (h n ∙ ap (λ (t : Bool). cond t false (has old n)) (eq-eqb n byte same)) in
      let was : one_if (has old n) ≡ 1 = ap one_if (ap (has old) same ∙ there) in
      omega (arith, rest, gone, was)
  | inr other ↦
      let below : byte < n = omega (arith, l, other) in
      let rest : members new n < members old n = members_less old new byte n below there h in
      let one : one_if (has new n) ≡ one_if (has old n) = ap one_if (h n ∙ ap (λ (t : Bool). cond t false (has old n)) (ne_eqb n byte other)) in
      omega (arith, rest, one)
]

-- ---- adding numbers that pass a test

-- Whether byte k of file o is after its durable contents, or differs from its durable value.
abbrev pub is_volatile_byte : Machine → ℕ → ℕ → ℕ → Bool
is_volatile_byte m o durable k = nat_le durable k || differ (byte_in (view m (FileByte o k))) (byte_in (view m (DurableByte o k)))

not_below : (k : ℕ) → nat_lt k 0 ≡ false
not_below k = grind (arith, nat_tests)

below_itself : (k : ℕ) → nat_lt k k ≡ false
below_itself k = grind (arith, nat_tests)

below_next : (k n : ℕ) → k ≡ n → nat_lt k (n + 1) ≡ true
below_next k n e = lt-ltb k (n + 1) (omega arith)

below_other : (k n : ℕ) → (k ≡ n → ⊥) → nat_lt k (n + 1) ≡ nat_lt k n
below_other k n d = grind (arith, nat_tests, d)

pub added_none : (old : List ℕ) (test : ℕ → Bool) (k : ℕ) → has old k ≡ (has old k || (nat_lt k 0 && test k))
added_none old test k = or_false (has old k) (nat_lt k 0 && test k) (and_left (nat_lt k 0) (test k) (not_below k))

pub added_more : (old now room new : List ℕ) (test : ℕ → Bool) (at : ℕ) (member : Bool) → ((k : ℕ) → has now k ≡ (has old k || (nat_lt k at && test k))) → ((k : ℕ) → has room k ≡ has now k)
    → member ≡ (has room at || test at) → ((k : ℕ) → has new k ≡ cond (k == at) member (has room k)) → (k : ℕ) → has new k ≡ (has old k || (nat_lt k (at + 1) && test k))
added_more old now room new test at member before same is_member h k = elim (cases_eq k at) [
  | inl here ↦
      let was : has room at ≡ has old at = same at ∙ before at ∙ sym (or_false (has old at) (nat_lt at at && test at) (and_left (nat_lt at at) (test at) (below_itself at))) in
      h k ∙ ap (λ (t : Bool). cond t member (has room k)) (eq-eqb k at here) ∙ is_member ∙ ap (λ (t : Bool). t || test at) was ∙ ap (λ (i : ℕ). has old i || test i) (sym here)
      ∙ ap (λ (t : Bool). has old k || (t && test k)) (sym (below_next k at here))
  | inr other ↦
      h k ∙ ap (λ (t : Bool). cond t member (has room k)) (ne_eqb k at other) ∙ same k ∙ before k ∙ ap (λ (t : Bool). has old k || (t && test k)) (sym (below_other k at other))
]
