-- Searching for a draining chain between two requests, request by request.
use Rattle.finding_rules.proofs.Common.{false_from_ne_true, ◌≡◌, ℕ, ◌<◌, ◌≤◌, ◌+◌, true, false, List, length, Some, slice_get, nat_lt, ◌&&◌, Row, drains, Chained, is_open, inl, inr, sym, ap, ◌∙◌, arith, same_Some, cases_lt, and_parts, ltb-true, any_true, any_false, is_between, is_after_barrier}
use Rattle.finding_rules.proofs.Draining.{none_past}

-- No request from the start of the other's chain up to number k is between the two.
abbrev pub NoneBetween : List Row → Row → Row → ℕ → Type 0
NoneBetween rows row other k = (j : ℕ) (x : Row) → other.unit ≤ j → j < k → slice_get rows j ≡ Some x → is_between rows row other x ≡ false

pub between_found : (rows : List Row) (row other x : Row) (k : ℕ) → slice_get rows k ≡ Some x → is_between rows row other x ≡ true → is_after_barrier rows row other ≡ true
between_found rows row other x k e h = any_true (is_between rows row other) rows k x e h

-- A request before the start of the other's chain belongs to an earlier chain.
earlier_chain : (rows : List Row) (row other x : Row) (j : ℕ) → Chained rows → slice_get rows j ≡ Some x → j < other.unit → is_between rows row other x ≡ false
earlier_chain rows row other x j c e l =
    false_from_ne_true (is_between rows row other x) (λ t.
    let units = (and_parts (nat_lt other.unit x.unit && nat_lt x.unit row.unit) (is_open x && drains rows x.unit) t).0 in
    let up : other.unit < x.unit = ltb-true other.unit x.unit (and_parts (nat_lt other.unit x.unit) (nat_lt x.unit row.unit) units).0 in
    let low : x.unit ≤ j = c.back j x e in
    absurd (omega (arith, up, low, l)))

-- At the end of the table the search has found none.
pub between_end : (rows : List Row) (row other : Row) (k : ℕ) → Chained rows → NoneBetween rows row other k → length rows ≤ k → is_after_barrier rows row other ≡ false
between_end rows row other k c none l = any_false (is_between rows row other) rows (λ j x e.
    elim (cases_lt j other.unit) [
      | inl before ↦ earlier_chain rows row other x j c e before
      | inr above ↦ elim (cases_lt j k) [
        | inl below ↦ none j x above below e
        | inr past ↦ absurd (none_past rows k j x l past e)
      ]
    ])

-- The search continues past a request that is not between the two.
pub between_more : (rows : List Row) (row other x : Row) (k : ℕ) → NoneBetween rows row other k → slice_get rows k ≡ Some x → is_between rows row other x ≡ false → NoneBetween rows row other (k + 1)
between_more rows row other x k none there h = λ j y low high e.
    elim (cases_lt j k) [
      | inl below ↦ none j y low below e
      | inr past ↦
          let same : k ≡ j = omega arith in
          let one : x ≡ y = same_Some x y (sym there ∙ ap (slice_get rows) same ∙ e) in
          ap (is_between rows row other) (sym one) ∙ h
    ]
