-- Searching the incomplete requests for one with the same user_data.
use Rattle.finding_rules.proofs.Common.{and_right, ◌≡◌, ℕ, ◌<◌, ◌≤◌, ◌+◌, ◌-◌, Bool, true, false, List, Option, Some, option_map, slice_get, nat_lt, nat_le, not, ◌==◌, ◌&&◌, option_map_or, enumerate_from, Row, any_numbered, IsNextWhere, NoneWhere, is_open, inl, inr, sym, ap, ◌∙◌, arith, and_from, and_left, cases_lt, lt-ltb, ne_eqb, nat_tests, enumerated, numbered, any_true, any_false, is_twin, has_twin}

-- Whether request q has a given user_data.
abbrev has_user : List Row → ℕ → ℕ → Bool
has_user rows user q = option_map_or (λ (row : Row). row.entry.user_data == user) (slice_get rows q) false

abbrev twin_test : ℕ → ℕ → ℕ × Row → Bool
twin_test r user p = is_twin r user p.0 p.1

-- Whether q is one of the 32 numbers before r.
abbrev is_near : ℕ → ℕ → Bool
is_near r q = nat_lt q r && nat_le r (q + 32)

near : (q r : ℕ) → q < r → r ≤ q + 32 → is_near r q ≡ true
near q r l m = and_from _ _ (lt-ltb q r l) (grind (arith, nat_tests, m))

-- No request before number k is a twin of request r.
abbrev pub NoTwin : List Row → ℕ → ℕ → ℕ → Type 0
NoTwin rows r user k = (q : ℕ) (x : Row) → q < k → slice_get rows q ≡ Some x → is_twin r user q x ≡ false

not_second : (a b c : Bool) → b ≡ false → (a && (b && c)) ≡ false
not_second a b c e = and_right a (b && c) (and_left b c e)

not_third : (a b c : Bool) → c ≡ false → (a && (b && c)) ≡ false
not_third a b c e = and_right a (b && c) (and_right b c e)

has_user_at : (rows : List Row) (user q : ℕ) (x : Row) → slice_get rows q ≡ Some x → has_user rows user q ≡ (x.entry.user_data == user)
has_user_at rows user q x e = ap (λ (o : Option Row). option_map_or (λ (row : Row). row.entry.user_data == user) o false) e

-- If the next incomplete request has another user_data, no request up to it is a twin.
pub twin_on : (rows : List Row) (r user from q : ℕ) → NoTwin rows r user from → IsNextWhere is_open rows from q → has_user rows user q ≡ false → NoTwin rows r user (q + 1)
twin_on rows r user from q none next other k x l e =
    elim (cases_lt k from) [
      | inl before ↦ none k x before e
      | inr above ↦ elim (cases_lt k q) [
        | inl less ↦ not_second (is_near r k) (is_open x) (x.entry.user_data == user) (next.least k x above less e)
        | inr last ↦
            let same : q ≡ k = omega (arith, l, last) in
            not_third (is_near r k) (is_open x) (x.entry.user_data == user) (sym (has_user_at rows user k x e) ∙ ap (has_user rows user) (sym same) ∙ other)
      ]
    ]

-- An incomplete request with the same user_data, close enough before request r, is a twin.
pub twin_found : (rows : List Row) (r from q : ℕ) (row : Row) → IsNextWhere is_open rows from q → q < r → r ≤ from + 32 → (row.entry.user_data ≡ 0 → ⊥) → has_user rows row.entry.user_data q ≡ true → has_twin rows r row ≡ true
twin_found rows r from q row next l m user h =
    let own : (next.row.entry.user_data == row.entry.user_data) ≡ true = sym (has_user_at rows row.entry.user_data q next.row next.there) ∙ h in
    and_from _ _ (ap not (ne_eqb row.entry.user_data 0 user)) (any_true (twin_test r row.entry.user_data) (enumerate_from 0 rows) q (q, next.row)
    (enumerated rows q ∙ ap (option_map (λ (y : Row). (q, y))) next.there)
    (and_from _ _ (near q r l (omega (arith, m, next.after))) (and_from _ _ next.passes own)))

no_twin : (rows : List Row) (r : ℕ) (row : Row) → ((q : ℕ) (x : Row) → slice_get rows q ≡ Some x → is_twin r row.entry.user_data q x ≡ false) → any_numbered (is_twin r row.entry.user_data) rows ≡ false
no_twin rows r row none = any_false (twin_test r row.entry.user_data) (enumerate_from 0 rows) (λ i p e. numbered (twin_test r row.entry.user_data) rows i p (λ x g. none i x g) e)

not_before : (q r : ℕ) → r ≤ q → nat_lt q r ≡ false
not_before q r l = grind (arith, nat_tests, l)

not_near : (q r : ℕ) → q + 32 < r → nat_le r (q + 32) ≡ false
not_near q r l = grind (arith, nat_tests, l)

-- Requests more than 32 before request r are no twins.
pub twins_near : (rows : List Row) (r user from : ℕ) → from ≤ r - 32 → NoTwin rows r user from
twins_near rows r user from l q x b e = and_left _ _ (and_right (nat_lt q r) (nat_le r (q + 32)) (not_near q r (omega (arith, l, b))))

-- If the next incomplete request is not before request r, there is no twin.
pub twin_past : (rows : List Row) (r from q : ℕ) (row : Row) → NoTwin rows r row.entry.user_data from → IsNextWhere is_open rows from q → r ≤ q → has_twin rows r row ≡ false
twin_past rows r from q row none next l = and_right _ _ (no_twin rows r row (λ k x e.
    elim (cases_lt k from) [
      | inl before ↦ none k x before e
      | inr above ↦ elim (cases_lt k q) [
        | inl less ↦ not_second (is_near r k) (is_open x) (x.entry.user_data == row.entry.user_data) (next.least k x above less e)
        | inr late ↦ and_left _ _ (and_left _ _ (not_before k r (omega (arith, l, late))))
      ]
    ]))

-- If no request is incomplete from there on, there is no twin.
pub twin_none : (rows : List Row) (r from : ℕ) (row : Row) → NoTwin rows r row.entry.user_data from → NoneWhere is_open rows from → has_twin rows r row ≡ false
twin_none rows r from row none absent = and_right _ _ (no_twin rows r row (λ k x e.
    elim (cases_lt k from) [
      | inl before ↦ none k x before e
      | inr above ↦ not_second (is_near r k) (is_open x) (x.entry.user_data == row.entry.user_data) (absent k x above e)
    ]))
