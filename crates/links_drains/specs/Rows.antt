-- The places of the request table, and the fields of a request that never change.
use Rattle.std.specs.Prelude.{◌≡◌, ℕ, ◌+◌, ◌<◌, Bool, true, false, Option, Some, None, option_map, slice_get, List, length}
use Rattle.links_drains.specs.Common.{Row, Sqe, Queued}
use Rattle.places.specs.declared.place.Place.{Place}
use Rattle.places.specs.declared.place.Place.TheVariants.{Request}
use Rattle.places.specs.declared.value.Value.{Value}
use Rattle.places.specs.declared.value.Value.TheVariants.{Requested}
use Rattle.places.specs.View.{View}

-- Whether the place is a request.
abbrev pub table_owns : Place → Bool
table_owns (Request i) = true
table_owns _ = false

-- The value of each place.
abbrev pub table_seen : List Row → View
table_seen rows (Request i) = option_map Requested (slice_get rows i)
table_seen rows _ = None

-- The fields of a request that never change: its entry and its chain.
abbrev pub fixed_of : Row → Sqe × ℕ
fixed_of row = (row.entry, row.unit)

-- Requests have the same entry and chain in both tables. The second may have more requests at the
-- end.
abbrev pub Stay : List Row → List Row → Type 0
Stay rows next =
    (r : ℕ) → r < length rows
    → option_map fixed_of (slice_get next r) ≡ option_map fixed_of (slice_get rows r)

-- Which writes are allowed: to replace a request by one with the same entry and chain, or to remove
-- the last one.
abbrev pub table_can_put : List Row → Place → Option Value → Type 0
table_can_put rows (Request i) (Some (Requested row)) =
    option_map fixed_of (slice_get rows i) ≡ Some (fixed_of row)
table_can_put rows (Request i) None = i + 1 ≡ length rows
table_can_put rows place value = ⊥

-- The queued request that an entry becomes: its chain, its timeout, and the request that it limits
-- if it is a linked timeout.
abbrev pub new_row : Sqe → ℕ → Option ℕ → Option ℕ → Row
new_row entry unit time target = record {
  deadline = None;
  time = time;
  entry = entry;
  base = 0;
  unit = unit;
  target = target;
  held = None;
  phase = Queued;
}
