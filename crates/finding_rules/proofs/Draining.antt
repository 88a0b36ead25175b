-- Searching a chain for a request with IOSQE_IO_DRAIN, request by request.
use Rattle.finding_rules.proofs.Common.{false_from_ne_true, ◌≡◌, ℕ, ◌<◌, ◌≤◌, Bool, true, false, List, length, Some, slice_get, ◌==◌, ◌&&◌, Row, drains, has_drain_flag, Chained, inl, inr, sym, ◌∙◌, arith, none-some, slice_get_past, cases_lt, and_parts, and_from, eqb-true, eq-eqb, any_true, any_false}

abbrev pub is_draining : ℕ → Row → Bool
is_draining unit row = (row.unit == unit) && has_drain_flag row

-- No request of the chain before number k drains.
abbrev pub NoneDrains : List Row → ℕ → ℕ → Type 0
NoneDrains rows unit k = (j : ℕ) (row : Row) → unit ≤ j → j < k → slice_get rows j ≡ Some row → is_draining unit row ≡ false

pub drains_found : (rows : List Row) (k unit : ℕ) (row : Row) → slice_get rows k ≡ Some row → row.unit ≡ unit → has_drain_flag row ≡ true → drains rows unit ≡ true
drains_found rows k unit row e u a = any_true (is_draining unit) rows k row e (and_from (row.unit == unit) (has_drain_flag row) (eq-eqb row.unit unit u) a)

not_draining : (unit : ℕ) (row : Row) → (row.unit ≡ unit → ⊥) → is_draining unit row ≡ false
not_draining unit row g = false_from_ne_true (is_draining unit row) (λ t. g (eqb-true row.unit unit (and_parts (row.unit == unit) (has_drain_flag row) t).0))

-- A request before the start of a chain belongs to another.
earlier : (rows : List Row) (unit j : ℕ) (row : Row) → Chained rows → slice_get rows j ≡ Some row → j < unit → is_draining unit row ≡ false
earlier rows unit j row c e l = not_draining unit row (λ same. let low : row.unit ≤ j = c.back j row e in absurd (omega (arith, same)))

pub none_past : {X : Type 0} (xs : List X) (k j : ℕ) (x : X) → length xs ≤ k → k ≤ j → slice_get xs j ≡ Some x → ⊥
none_past xs k j x l up e = none-some x (sym (slice_get_past xs j (omega arith)) ∙ e)

-- At the end of the table the search has found none.
pub drains_end : (rows : List Row) (unit k : ℕ) → Chained rows → NoneDrains rows unit k → length rows ≤ k → drains rows unit ≡ false
drains_end rows unit k c none l = any_false (is_draining unit) rows (λ j row e.
    elim (cases_lt j unit) [
      | inl before ↦ earlier rows unit j row c e before
      | inr above ↦ elim (cases_lt j k) [
        | inl below ↦ none j row above below e
        | inr past ↦ absurd (none_past rows k j row l past e)
      ]
    ])

-- The chain ends where another begins.
pub drains_other : (rows : List Row) (unit k : ℕ) (y : Row) → Chained rows → NoneDrains rows unit k → unit ≤ k → slice_get rows k ≡ Some y → (y.unit ≡ unit → ⊥) → drains rows unit ≡ false
drains_other rows unit k y c none u there other = any_false (is_draining unit) rows (λ j row e.
    elim (cases_lt j unit) [
      | inl before ↦ earlier rows unit j row c e before
      | inr above ↦ elim (cases_lt j k) [
        | inl below ↦ none j row above below e
        | inr past ↦ not_draining unit row (λ same. other (c.run k j y row there e past (omega (arith, same, u)) ∙ same))
      ]
    ])
