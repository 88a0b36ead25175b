-- Finding the linked timeouts of a list of requests, one by one. Public contracts don't use it.
use Rattle.std.specs.Prelude.{◌≡◌, ℕ, ◌+◌, ◌<◌, ◌≤◌, ◌==◌, Bool, false, ◌&&◌, Some, slice_get, List}
use Rattle.std.specs.Option.{option_map_or}
use Rattle.entries.specs.declared.row.Row.{Row}
use Rattle.links_drains.specs.Endings.{Ending, endings, given, ecanceled}
use Rattle.links_drains.specs.Links.{is_guard}
use Rattle.links_drains.specs.Phases.{is_unfinished}
use Rattle.timeouts_cancel.specs.Cascades.{guards_listed}
use Rattle.timeouts_cancel.specs.Walks.{upto}

-- The unfinished linked timeouts whose target is listed.
abbrev pub guarding : List Row → List Ending → List Ending
guarding rows listed = endings (λ r row. given (guards_listed listed row) ecanceled) rows

-- Whether the request is an unfinished linked timeout of request t.
abbrev pub guards_row : ℕ → Row → Bool
guards_row t row =
    is_unfinished row.phase
    && (is_guard row && option_map_or (λ target. target == t) row.target false)

-- `es` has the linked timeouts of the first i listed requests. They are all those below request
-- `to`.
pub record Guarded (rows : List Row) (listed : List Ending) (i : ℕ) (es : List Ending) : Type 0 where
  pub to : ℕ
  pub found : es ≡ upto (λ r row. given (guards_listed listed row) ecanceled) rows to
  pub below : (j : ℕ) (e : Ending) → slice_get listed j ≡ Some e → j < i → e.0 + 1 < to
  pub above : (j : ℕ) (e : Ending) → slice_get listed j ≡ Some e → i ≤ j → to ≤ e.0 + 1
