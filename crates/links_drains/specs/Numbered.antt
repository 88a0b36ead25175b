-- Lists whose items are numbered from 0.
use Rattle.std.specs.Prelude.{◌≡◌, ℕ, ◌≤◌, ◌<◌, Bool, true, false, ◌&&◌, nat_le, Option, Some, List, map, slice_get}
use Rattle.links_drains.specs.Common.{Row, filter, list_any, enumerate_from}

-- The items that pass a test of the number and the item, in order, each with its number.
abbrev pub numbered_where : {X : Type 0} → (ℕ → X → Bool) → List X → List (ℕ × X)
numbered_where test xs = filter (λ p. test p.0 p.1) (enumerate_from 0 xs)

-- The numbers of these items.
abbrev pub numbers_where : {X : Type 0} → (ℕ → X → Bool) → List X → List ℕ
numbers_where test xs = map (λ p. p.0) (numbered_where test xs)

-- Whether some item passes.
abbrev pub any_numbered : {X : Type 0} → (ℕ → X → Bool) → List X → Bool
any_numbered test xs = list_any (λ p. test p.0 p.1) (enumerate_from 0 xs)

-- Each item, mapped with its number.
abbrev pub map_numbered : {X Y : Type 0} → (ℕ → X → Y) → List X → List Y
map_numbered f xs = map (λ p. f p.0 p.1) (enumerate_from 0 xs)

-- The numbers, from `from` on, of the rows that pass a test, and the first of them.
abbrev pub numbers_from : (Row → Bool) → List Row → ℕ → List ℕ
numbers_from test rows from = numbers_where (λ r row. nat_le from r && test row) rows

abbrev pub next_where : (Row → Bool) → List Row → ℕ → Option ℕ
next_where test rows from = slice_get (numbers_from test rows from) 0

-- r is the first row, from a number on, that passes a test.
pub record IsNextWhere (test : Row → Bool) (rows : List Row) (from r : ℕ) : Type 0 where
  pub after : from ≤ r
  pub row : Row
  pub there : slice_get rows r ≡ Some row
  pub passes : test row ≡ true
  pub least : (i : ℕ) (x : Row) → from ≤ i → i < r → slice_get rows i ≡ Some x → test x ≡ false

-- No row from a number on passes it.
abbrev pub NoneWhere : (Row → Bool) → List Row → ℕ → Type 0
NoneWhere test rows from = (i : ℕ) (x : Row) → from ≤ i → slice_get rows i ≡ Some x → test x ≡ false
