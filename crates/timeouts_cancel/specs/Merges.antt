-- Merging two sorted lists of completions, one by one. Public contracts don't use it.
use Rattle.std.specs.Prelude.{◌≡◌, ℕ, ◌<◌, ◌≤◌, ◌⊎◌, Some, slice_get, List}
use Rattle.entries.specs.declared.row.Row.{Row}
use Rattle.links_drains.specs.Endings.{Ending, result_in, or_else}
use Rattle.timeouts_cancel.specs.Walks.{upto}

-- The completions are sorted by request number, each once.
abbrev pub Rises : List Ending → Type 0
Rises es =
    (i j : ℕ) (p q : Ending) → slice_get es i ≡ Some p → slice_get es j ≡ Some q → i < j → p.0 < q.0

-- The completions before index i are for requests below k, and the others are not.
pub record Splits (es : List Ending) (k i : ℕ) : Type 0 where
  pub below : (j : ℕ) (e : Ending) → slice_get es j ≡ Some e → j < i → e.0 < k
  pub above : (j : ℕ) (e : Ending) → slice_get es j ≡ Some e → i ≤ j → k ≤ e.0

-- e is the next completion of the two lists, from indexes i and j on. If both are for the same
-- request, it is the first list's.
pub record IsLeast (first second : List Ending) (i j : ℕ) (e : Ending) : Type 0 where
  pub first_later : (x : Ending) → slice_get first i ≡ Some x → e.0 ≤ x.0
  pub second_later : (x : Ending) → slice_get second j ≡ Some x → e.0 ≤ x.0
  pub from : (slice_get first i ≡ Some e)
      ⊎ ((slice_get second j ≡ Some e) × ((x : Ending) → slice_get first i ≡ Some x → e.0 < x.0))

-- The completions for requests below k were merged.
pub record Merged (rows : List Row) (first second : List Ending) (k i j : ℕ) (es : List Ending) : Type 0 where
  pub listed : es ≡ upto (λ r row. or_else (result_in first r) (result_in second r)) rows k
  pub firsts : Splits first k i
  pub seconds : Splits second k j
