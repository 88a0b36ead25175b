-- The counts of held descriptors remain correct when the table changes.
use Rattle.links_drains.proofs.Common.{◌≡◌, ℕ, zero, suc, Bool, true, false, cond, refl, sym, ◌∙◌, ap, List, [], ◌∷◌, ◌++◌, length, take, drop, get_or, ◌+◌, ◌-◌, ◌^◌, ◌<◌, ◌≤◌, arith, Some, slice_get, slice_set, nat_lt, ◌||◌, filter, list_any, take-append-drop, take_all, Row, holders, is_held, updated_set, holds, holders_of, is_held_by, Tallied, common_steps, nat_tests}
use Rattle.std.proofs.lemmas.List.Filters.{length-filter_more}
use Rattle.model_files.specs.declared.held.Held.{Held}
use Rattle.links_drains.proofs.{Counting.matching-more, Counting.matching-append, Counting.matching-updated, Counting.matching-le-length, RowsKept.length-dropped}

-- ---- How many requests hold a descriptor

cut : (rows : List Row) (n fd : ℕ) → holders_of rows fd ≡ holders_of (take n rows) fd + holders_of (drop n rows) fd
cut rows n fd = ap (λ rs. holders_of rs fd) (sym (take-append-drop n rows)) ∙ matching-append (holds fd) (take n rows) (drop n rows)

one_more : (rows : List Row) (i : ℕ) (d : Row) (fd : ℕ) → i < length rows → holders_of (take (i + 1) rows) fd ≡ holders_of (take i rows) fd + cond (holds fd (get_or rows i d)) 1 0
one_more rows i d fd h = length-filter_more (holds fd) rows i d h

-- One row is replaced.
written : (rows : List Row) (r : ℕ) (before row : Row) (fd : ℕ) → slice_get rows r ≡ Some before → holders_of (slice_set rows r row) fd + cond (holds fd before) 1 0 ≡ holders_of rows fd + cond (holds fd row) 1 0
written rows r before row fd h = ap (λ rs. holders_of rs fd + cond (holds fd before) 1 0) (sym (updated_set (λ x. row) rows r before h)) ∙ matching-updated (holds fd) (λ x. row) rows r before h

-- ---- Rows are removed from the counts one after the other

-- The next row to be removed is counted.
pub next_counted : (rows : List Row) (n i : ℕ) (row : Row) (fd before now : ℕ) → i < length rows → row ≡ get_or rows i row → holders_of (drop n rows) fd ≤ before
    → before + holders_of (take n rows) fd ≡ now + holders_of (take i rows) fd → holds fd row ≡ true → 0 < now
next_counted = grind (arith, common_steps, cut, one_more)

pub next_gone : (rows : List Row) (n i : ℕ) (row : Row) (fd before now later : ℕ) → i < length rows → row ≡ get_or rows i row → before + holders_of (take n rows) fd ≡ now + holders_of (take i rows) fd
    → now ≡ later + cond (holds fd row) 1 0 → before + holders_of (take n rows) fd ≡ later + holders_of (take (i + 1) rows) fd
next_gone = grind (arith, one_more)

-- All rows from a number on were removed.
pub all_gone : (rows : List Row) (n i fd before now : ℕ) → length rows ≤ i → before + holders_of (take n rows) fd ≡ now + holders_of (take i rows) fd → before ≡ now + holders_of (drop n rows) fd
all_gone = grind (arith, cut, take_all)

-- ---- The counts of a table

-- A count cannot overflow: there are too few rows.
pub room : (rows : List Row) (held : Held) → Tallied rows held → (fd : ℕ) → holders held fd < 2 ^ 32 - 1
room = grind (arith, matching-le-length)

pub room_less : (rows : List Row) (held between : Held) (row : Row) → Tallied rows held → ((fd : ℕ) → holders held fd ≡ holders between fd + cond (holds fd row) 1 0) → (fd : ℕ) → holders between fd < 2 ^ 32 - 1
room_less rows held between row t off fd = let a = room rows held t fd in let b = off fd in omega (arith, a, b)

positive : (n : ℕ) (b : Bool) (m : ℕ) → n ≡ cond b 1 0 + m → b ≡ true → 0 < n
positive = grind arith

-- Each request that holds the descriptor is counted.
pub counts_row : (rows : List Row) (held : Held) (r : ℕ) (row : Row) → Tallied rows held → slice_get rows r ≡ Some row → (fd : ℕ) → holds fd row ≡ true → 0 < holders held fd
counts_row rows held r row t h fd e =
    let a = t.counts fd in
    omega (arith, a, among rows r h)
  where
    among : (xs : List Row) (i : ℕ) → slice_get xs i ≡ Some row → 0 < holders_of xs fd
    among [] i g = absurd cc
    among (x ∷ xs) zero g =
        let k : x ≡ row = cc in
        positive _ (holds fd x) _ (matching-more (holds fd) x xs) (ap (holds fd) k ∙ e)
    among (x ∷ xs) (suc i) g =
        let m = matching-more (holds fd) x xs in
        let n = among xs i g in
        omega (arith, m, n)

-- A row was replaced.
pub tallied_set : (rows : List Row) (held between after : Held) (r : ℕ) (before row : Row) → Tallied rows held → slice_get rows r ≡ Some before →
    ((fd : ℕ) → holders held fd ≡ holders between fd + cond (holds fd before) 1 0) → ((fd : ℕ) → holders after fd ≡ holders between fd + cond (holds fd row) 1 0) → Tallied (slice_set rows r row) after
tallied_set = grind (arith, common_steps, written)

-- A row was added at the end.
pub tallied_push : (rows : List Row) (held after : Held) (row : Row) → Tallied rows held → length rows < 65536 →
    ((fd : ℕ) → holders after fd ≡ holders held fd + cond (holds fd row) 1 0) → Tallied (rows ++ row ∷ []) after
tallied_push = grind (arith, common_steps)

-- Rows were dropped from the end.
pub counts_dropped : (rows : List Row) (held : Held) (n : ℕ) → Tallied rows held → (fd : ℕ) → holders_of (drop n rows) fd ≤ holders held fd
counts_dropped rows held n t fd = let a = t.counts fd in omega (arith, a, cut rows n fd)

pub tallied_cut : (rows : List Row) (held after : Held) (n : ℕ) → Tallied rows held → ((fd : ℕ) → holders held fd ≡ holders after fd + holders_of (drop n rows) fd) → Tallied (take n rows) after
tallied_cut = grind (arith, length-dropped, cut)

-- ---- A descriptor is held exactly if its count is positive

pub is_held_tallied : (rows : List Row) (held : Held) → Tallied rows held → (fd : ℕ) → is_held held fd ≡ is_held_by rows fd
is_held_tallied rows held t fd = ap (λ n. nat_lt 0 n) (t.counts fd) ∙ some rows
  where
    some : (xs : List Row) → nat_lt 0 (length (filter (holds fd) xs)) ≡ list_any (holds fd) xs
    some [] = refl
    some (x ∷ xs) = by (holds fd x) (some xs)
      where
        by : (b : Bool) → nat_lt 0 (length (filter (holds fd) xs)) ≡ list_any (holds fd) xs → nat_lt 0 (length (cond b (x ∷ filter (holds fd) xs) (filter (holds fd) xs))) ≡ (b || list_any (holds fd) xs)
        by true k = grind (arith, nat_tests)
        by false k = k
