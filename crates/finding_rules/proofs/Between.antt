-- Whether a WRITE moved a byte of a set.
use Rattle.finding_rules.proofs.Common.{◌≡◌, ℕ, zero, suc, ◌+◌, ◌-◌, ◌<◌, ◌≤◌, Bool, true, false, List, [], ◌∷◌, refl, Some, None, slice_get, nat_lt, list_any, has, IsNext, NoneFrom, Written, inl, inr, sym, ap, ◌∙◌, arith, cases_lt, lt-ltb, le-ltb, or_from, list_any-append, has_byte, is_marked, numbers_below, Option, option_map_or}
use Rattle.finding_rules.proofs.Members.{Has, any_alike, any_has, has_left, has_right}

-- ---- numbers below another

pub below_there : (n m : ℕ) → n < m → Has (numbers_below m) n
below_there n zero l = absurd (omega arith)
below_there n (suc m) l =
    elim (cases_lt n m) [
      | inl below ↦ has_left (numbers_below m) (m ∷ []) n (below_there n m below)
      | inr up ↦ let same : m ≡ n = omega arith in has_right (numbers_below m) (m ∷ []) n (inl same)
    ]

none_below : (test : ℕ → Bool) (n : ℕ) → ((k : ℕ) → k < n → test k ≡ false) → list_any test (numbers_below n) ≡ false
none_below test zero h = refl
none_below test (suc n) h =
    list_any-append test (numbers_below n) (n ∷ []) ∙ or_from (list_any test (numbers_below n)) (list_any test (n ∷ [])) (none_below test n (λ k l. h k (omega arith))) (or_from (test n) false (h n (omega arith)) refl)

-- ---- a range of a set

between_some : (words : List ℕ) (first count byte : ℕ) → IsNext words first byte → byte - first < count → list_any (λ (k : ℕ). has words (first + k)) (numbers_below count) ≡ true
between_some words first count byte next l =
    let same : first + (byte - first) ≡ byte = omega (arith, next.after) in
    any_has (λ (k : ℕ). has words (first + k)) (numbers_below count) (byte - first) (below_there (byte - first) count l) (ap (has words) same ∙ next.member)

between_late : (words : List ℕ) (first count byte : ℕ) → IsNext words first byte → count ≤ byte - first → list_any (λ (k : ℕ). has words (first + k)) (numbers_below count) ≡ false
between_late words first count byte next l = none_below (λ (k : ℕ). has words (first + k)) count (λ k m. next.least (first + k) (omega arith) (omega (arith, next.after, l, m)))

pub between_is : (words : List ℕ) (first count byte : ℕ) → IsNext words first byte → nat_lt (byte - first) count ≡ list_any (λ (k : ℕ). has words (first + k)) (numbers_below count)
between_is words first count byte next = elim (cases_lt (byte - first) count) [
  | inl l ↦ lt-ltb (byte - first) count l ∙ sym (between_some words first count byte next l)
  | inr late ↦ le-ltb (byte - first) count late ∙ sym (between_late words first count byte next late)
]

pub between_none : (words : List ℕ) (first count : ℕ) → NoneFrom words first → list_any (λ (k : ℕ). has words (first + k)) (numbers_below count) ≡ false
between_none words first count none = none_below (λ (k : ℕ). has words (first + k)) count (λ k m. none (first + k) (omega arith))

-- ---- one set of a list

pub marked_in : (sets : List (List ℕ)) (o k : ℕ) (words : List ℕ) → slice_get sets o ≡ Some words → is_marked sets o k ≡ has words k
marked_in sets o k words e = ap (λ (x : Option (List ℕ)). option_map_or (λ (ws : List ℕ). has ws k) x false) e

pub marked_none : (sets : List (List ℕ)) (o k : ℕ) → slice_get sets o ≡ None → is_marked sets o k ≡ false
marked_none sets o k e = ap (λ (x : Option (List ℕ)). option_map_or (λ (words : List ℕ). has words k) x false) e

-- The set of the WRITE's file has such a byte.
pub byte_in_set : (sets : List (List ℕ)) (w : Written) (words : List ℕ) → slice_get sets w.file ≡ Some words → list_any (λ (k : ℕ). has words (w.first + k)) (numbers_below w.count) ≡ has_byte (is_marked sets) w
byte_in_set sets w words e = any_alike (λ (k : ℕ). has words (w.first + k)) (λ (k : ℕ). is_marked sets w.file (w.first + k)) (λ k. sym (marked_in sets w.file (w.first + k) words e)) (numbers_below w.count)

pub byte_in_none : (sets : List (List ℕ)) (w : Written) → slice_get sets w.file ≡ None → false ≡ has_byte (is_marked sets) w
byte_in_none sets w e = sym (none_below (λ (k : ℕ). is_marked sets w.file (w.first + k)) w.count (λ k l. marked_none sets w.file (w.first + k) e))
