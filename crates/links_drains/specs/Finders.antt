-- Finding requests by their user_data and by their descriptor. The finder leads to every request
-- that has them, and perhaps to others. Public contracts use `holds_now` and `NoUser` alone.
use Rattle.std.specs.Prelude.{◌≡◌, ℕ, ◌+◌, ◌-◌, ◌*◌, ◌/◌, ◌%◌, ◌≤◌, ◌<◌, ◌==◌, ◌&&◌, Bool, true, false, Some, get_or, List, length, slice_get}
use Rattle.links_drains.specs.Common.{Row, has}
use Rattle.links_drains.specs.Holding.{holds, is_number}
use Rattle.links_drains.specs.Phases.{is_issued}
use Rattle.links_drains.specs.declared.finder.Finder.{Finder}

-- Whether the request holds the descriptor, which may be any number: only an issued request does.
abbrev pub holds_now : ℕ → Row → Bool
holds_now fd row = is_issued row.phase && is_number row.held fd

-- No request from `low` up to, but not including, `high` has this user_data.
abbrev pub NoUser : ℕ → List Row → ℕ → ℕ → Type 0
NoUser user_data rows low high =
    (r : ℕ) (row : Row) → low ≤ r → r < high → slice_get rows r ≡ Some row
    → (row.entry.user_data == user_data) ≡ false

-- No request in this range holds the descriptor.
abbrev pub NoHolder : ℕ → List Row → ℕ → ℕ → Type 0
NoHolder fd rows low high =
    (r : ℕ) (row : Row) → low ≤ r → r < high → slice_get rows r ≡ Some row
    → holds_now fd row ≡ false

-- ---- The invariant

-- The hash of a user_data.
abbrev pub hash_of : ℕ → ℕ
hash_of user_data = user_data % 8191

abbrev pub row_hash : Row → ℕ
row_hash row = hash_of row.entry.user_data

-- The number of a descriptor and a block of 64 requests.
abbrev pub mark_of : ℕ → ℕ → ℕ
mark_of fd r = (fd - 3) * 1024 + r / 64

-- There is room for n requests.
pub record HasPlace (n : ℕ) (finder : Finder) : Type 0 where
  pub last : 8191 ≤ length finder.last
  pub previous : n ≤ length finder.previous
  pub holding : 65536 ≤ 64 * length finder.holding

-- Each request is below the end of its hash's requests, and of those before each later one. The
-- blocks of all holders are marked.
pub record Findable (rows : List Row) (finder : Finder) : Type 0 where
  pub room : 0 < length rows → HasPlace (length rows) finder
  pub last : (r : ℕ) (row : Row) → slice_get rows r ≡ Some row
      → r < get_or finder.last (row_hash row) 0
  pub previous : (q r : ℕ) (other row : Row) → slice_get rows q ≡ Some other
      → slice_get rows r ≡ Some row → q < r → row_hash other ≡ row_hash row
      → q < get_or finder.previous r 0
  pub holding : (r fd : ℕ) (row : Row) → slice_get rows r ≡ Some row → holds fd row ≡ true
      → has finder.holding (mark_of fd r) ≡ true

-- The block of request r is marked for the descriptor that it holds, and nothing else has changed
-- but other marks.
pub record IsMarked (r : ℕ) (row : Row) (old new : Finder) : Type 0 where
  pub last : new.last ≡ old.last
  pub previous : new.previous ≡ old.previous
  pub room : length new.holding ≡ length old.holding
  pub others : (k : ℕ) → has old.holding k ≡ true → has new.holding k ≡ true
  pub mark : (fd : ℕ) → holds fd row ≡ true → has new.holding (mark_of fd r) ≡ true
