-- The finder leads to every request that is sought.
use Rattle.links_drains.proofs.Common.{◌≡◌, ◌≢◌, ℕ, Bool, true, false, cond, sym, ◌∙◌, ap, List, [], ◌∷◌, ◌++◌, length, take, set, get_or, max, ◌+◌, ◌-◌, ◌*◌, ◌/◌, ◌%◌, ◌<◌, ◌≤◌, ◌⊎◌, inl, inr, arith, Some, None, slice_get, slice_set, ◌==◌, ◌&&◌, and_left, both_ways, cases_Bool, cases_eq, cases_lt, eqb-true, ne_eqb, get_or-set_same, get_or-set_other, length-set, length-take, slice_get_within, Row, is_descriptor_number, slice_get-set, slice_get-take_below, slice_get-take_above, has, IsNext, NoneFrom, Findable, HasPlace, IsMarked, NoHolder, NoUser, hash_of, holds_now, mark_of, row_hash, is_number, IsNextWhere, NoneWhere, is_issued, fixed_of, IsNextIssued, NoneIssuedFrom, common_steps}
use Rattle.links_drains.{specs.declared.finder.Finder.Finder, proofs.Indexing.pushed, proofs.RowsKept.length-push}

-- ---- Room

pub findable_empty : (rows : List Row) (f : Finder) → length rows ≡ 0 → Findable rows f
findable_empty = grind (arith, common_steps)

-- There is room for each request.
pub place_at : (rows : List Row) (r : ℕ) (f : Finder) → r < length rows → Findable rows f → HasPlace (r + 1) f
place_at = grind arith

-- ---- A request is added

pub findable_push : (rows : List Row) (row : Row) (r : ℕ) (f g h : Finder) → HasPlace (r + 1) f → length rows ≡ r → Findable rows f
    → g.last ≡ set f.last (row_hash row) (r + 1) → g.previous ≡ set f.previous r (get_or f.last (row_hash row) 0) → g.holding ≡ f.holding → IsMarked r row g h → Findable (rows ++ row ∷ []) h
findable_push = grind (arith, length-set, length-push, pushed, get_or-set_same, cases_eq, slice_get_within, get_or-set_other)

-- ---- A request is replaced

-- The request that was there before has the same entry.
record Was (rows : List Row) (q : ℕ) (x : Row) : Type 0 where
  pub row : Row
  pub there : slice_get rows q ≡ Some row
  pub hash : row_hash row ≡ row_hash x

was : (rows : List Row) (r : ℕ) (before after : Row) → slice_get rows r ≡ Some before → fixed_of after ≡ fixed_of before → (q : ℕ) (x : Row) → slice_get (slice_set rows r after) q ≡ Some x → Was rows q x
was = grind (arith, slice_get-set, slice_get_within, eqb-true)

pub findable_set : (rows : List Row) (r : ℕ) (before after : Row) (f g : Finder) → Findable rows f → slice_get rows r ≡ Some before → fixed_of after ≡ fixed_of before → IsMarked r after f g → Findable (slice_set rows r after) g
findable_set = grind (arith, length-set, was, slice_get-set, slice_get_within, eqb-true)

-- ---- The last request is dropped

taken : (rows : List Row) (r q : ℕ) (x : Row) → slice_get (take r rows) q ≡ Some x → (q < r) × (slice_get (take (r + 1) rows) q ≡ Some x)
taken = grind (arith, cases_lt, slice_get-take_below, slice_get-take_above)

pub findable_pop : (rows : List Row) (r : ℕ) (row : Row) (f g : Finder) → r + 1 ≤ length rows → slice_get rows r ≡ Some row → Findable (take (r + 1) rows) f
    → g.last ≡ set f.last (row_hash row) (get_or f.previous r 0) → g.previous ≡ f.previous → g.holding ≡ f.holding → Findable (take r rows) g
findable_pop rows r row f g n there h last previous holding = record {
  room = λ l. record {
    last = let a = ap length last ∙ length-set f.last (row_hash row) (get_or f.previous r 0) in let b = place.last in omega (arith, a, b);
    previous = let a = ap length previous in let b = place.previous in let c = length-take r rows in let d = length-take (r + 1) rows in omega (arith, a, b, c, d, n);
    holding = let a = ap length holding in let b = place.holding in omega (arith, a, b);
  };
  last = λ q x k. let t = taken rows r q x k in last_at q x t.0 t.1;
  previous = λ q p y x a b l e.
      let s = taken rows r q y a in
      let t = taken rows r p x b in
      let o = h.previous q p y x s.1 t.1 l e in
      let k = ap (λ xs. get_or xs p 0) previous in
      omega (arith, o, k);
  holding = λ q fd x k e. let t = taken rows r q x k in ap (λ (w : List ℕ). has w (mark_of fd q)) holding ∙ h.holding q fd x t.1 e;
}
  where
    place : HasPlace (length (take (r + 1) rows)) f
    place = h.room (let d = length-take (r + 1) rows in omega (arith, d, n))

    here : slice_get (take (r + 1) rows) r ≡ Some row
    here = slice_get-take_below rows (r + 1) r (omega arith) ∙ there

    last_at : (q : ℕ) (x : Row) → q < r → slice_get (take (r + 1) rows) q ≡ Some x → q < get_or g.last (row_hash x) 0
    last_at q x l k = elim (cases_eq (row_hash x) (row_hash row)) [
      | inl same ↦
          let e = ap (λ i. get_or g.last i 0) same ∙ ap (λ xs. get_or xs (row_hash row) 0) last ∙ get_or-set_same f.last (row_hash row) (get_or f.previous r 0) 0 (let p = place.last in omega (arith, p)) in
          let o = h.previous q r x row k here l same in
          omega (arith, e, o)
      | inr other ↦
          let e = ap (λ xs. get_or xs (row_hash x) 0) last ∙ get_or-set_other f.last (row_hash row) (row_hash x) (get_or f.previous r 0) 0 other in
          let o = h.last q x k in
          omega (arith, e, o)
    ]

-- ---- By user_data

-- Another hash, another user_data.
other_user : (row : Row) (user_data : ℕ) → row_hash row ≢ hash_of user_data → (row.entry.user_data == user_data) ≡ false
other_user row user_data h = ne_eqb row.entry.user_data user_data (λ e. h (ap hash_of e))

-- No request from the end of its hash's on has a user_data.
pub no_user : (rows : List Row) (f : Finder) (user_data low high : ℕ) → Findable rows f → ((r : ℕ) → low ≤ r → r < high → get_or f.last (hash_of user_data) 0 ≤ r) → NoUser user_data rows low high
no_user rows f user_data low high h past r row l k there = other_user row user_data (λ same. absurd (let o = h.last r row there in let s = ap (λ i. get_or f.last i 0) same in let e = past r l k in omega (arith, o, s, e)))

pub no_user_before : (rows : List Row) (f : Finder) (user_data r low : ℕ) (row : Row) → Findable rows f → slice_get rows r ≡ Some row → row_hash row ≡ hash_of user_data → ((q : ℕ) → low ≤ q → q < r → get_or f.previous r 0 ≤ q) → NoUser user_data rows low r
no_user_before rows f user_data r low row h here hash past q other l k there = other_user other user_data (λ same. absurd (let o = h.previous q r other row there here k (same ∙ sym hash) in let e = past q l k in omega (arith, o, e)))

-- ---- Several requests are dropped

-- Some requests are left.
pub place_left : (rows : List Row) (k : ℕ) (f : Finder) → 0 < k → k ≤ length rows → Findable (take k rows) f → HasPlace (k - 1 + 1) f
place_left = grind (arith, length-take)

pub findable_pops : (rows : List Row) (k : ℕ) (row : Row) (f g : Finder) → 0 < k → k ≤ length rows → slice_get rows (k - 1) ≡ Some row → Findable (take k rows) f
    → g.last ≡ set f.last (row_hash row) (get_or f.previous (k - 1) 0) → g.previous ≡ f.previous → g.holding ≡ f.holding → Findable (take (k - 1) rows) g
findable_pops = grind (arith, findable_pop)

-- ---- By descriptor

holds_if : (a b c : Bool) → a ≡ true → (b && c) ≡ true → (a && b && c) ≡ true
holds_if = grind arith

-- A block without a mark has no holder.
pub no_mark : (rows : List Row) (f : Finder) (fd low high : ℕ) → Findable rows f → is_descriptor_number fd ≡ true → ((r : ℕ) → low ≤ r → r < high → r < length rows → has f.holding (mark_of fd r) ≡ false) → NoHolder fd rows low high
no_mark rows f fd low high h number none r row l k there = by (cases_Bool (holds_now fd row))
  where
    by : (holds_now fd row ≡ true) ⊎ (holds_now fd row ≡ false) → holds_now fd row ≡ false
    by (inl holder) = absurd (both_ways (has f.holding (mark_of fd r)) (none r l k (slice_get_within rows r row there)) (h.holding r fd row there (holds_if (is_descriptor_number fd) (is_issued row.phase) (is_number row.held fd) number holder)))
    by (inr other) = other

-- The next mark is one of the descriptor's.
pub marked_later : (rows : List Row) (f : Finder) (fd at next : ℕ) → Findable rows f → length rows ≤ 65536 → at < length rows → is_descriptor_number fd ≡ true → IsNext f.holding (mark_of fd at) next → next / 1024 ≡ mark_of fd at / 1024 → (start : ℕ) → start ≡ max at (next % 1024 * 64) → NoHolder fd rows at start
marked_later rows f fd at next h few within number m same start s =
    no_mark rows f fd at start h number (λ r l k n. m.least (mark_of fd r) (omega (arith, l)) (omega (arith, same, s, k, few, within, n, l)))

-- It isn't, or there is none.
pub unmarked : (rows : List Row) (f : Finder) (fd at next : ℕ) → Findable rows f → length rows ≤ 65536 → at < length rows → is_descriptor_number fd ≡ true → IsNext f.holding (mark_of fd at) next → next / 1024 ≢ mark_of fd at / 1024 → NoHolder fd rows at (length rows)
unmarked rows f fd at next h few within number m other =
    no_mark rows f fd at (length rows) h number (λ r l k n. m.least (mark_of fd r) (omega (arith, l)) (let a = m.after in elim (cases_lt (mark_of fd r) next) [ inl less ↦ less | inr more ↦ absurd (other (omega (arith, a, more, few, within, n, l))) ]))

pub no_marks : (rows : List Row) (f : Finder) (fd at : ℕ) → Findable rows f → is_descriptor_number fd ≡ true → NoneFrom f.holding (mark_of fd at) → NoHolder fd rows at (length rows)
no_marks rows f fd at h number none = no_mark rows f fd at (length rows) h number (λ r l k n. none (mark_of fd r) (omega (arith, l)))

-- What the mark is.
pub mark_is : (fd r mark : ℕ) → Some mark ≡ cond (is_descriptor_number fd) (Some (mark_of fd r)) None → (is_descriptor_number fd ≡ true) × (mark ≡ mark_of fd r)
mark_is = grind arith

-- ---- From one issued request to the next

pub joined_ranges : (fd : ℕ) (rows : List Row) (a b c : ℕ) → NoHolder fd rows a b → NoHolder fd rows b c → NoHolder fd rows a c
joined_ranges fd rows a b c g h r row l k there = elim (cases_lt r b) [ inl less ↦ g r row l less there | inr more ↦ h r row more k there ]

pub holder_found : (fd : ℕ) (rows : List Row) (from at r : ℕ) (row : Row) → from ≤ at → NoHolder fd rows from at → IsNextIssued rows at r → slice_get rows r ≡ Some row → holds_now fd row ≡ true → IsNextWhere (holds_now fd) rows from r
holder_found = grind arith

pub holder_passed : (fd : ℕ) (rows : List Row) (from at r : ℕ) (row : Row) → NoHolder fd rows from at → IsNextIssued rows at r → slice_get rows r ≡ Some row → holds_now fd row ≡ false → NoHolder fd rows from (r + 1)
holder_passed = grind arith

pub no_holder : (fd : ℕ) (rows : List Row) (from at : ℕ) → NoHolder fd rows from at → NoHolder fd rows at (length rows) → NoneWhere (holds_now fd) rows from
no_holder fd rows from at g h q row l there = joined_ranges fd rows from at (length rows) g h q row l (slice_get_within rows q row there) there

pub no_issued : (fd : ℕ) (rows : List Row) (from at end : ℕ) → NoHolder fd rows from at → NoneIssuedFrom rows at → NoHolder fd rows from end
no_issued fd rows from at end g n q row l k there = elim (cases_lt q at) [ inl less ↦ g q row l less there | inr more ↦ and_left _ _ (n q row more there) ]

-- ---- Room in an empty table

pub some_rows : (rows : List Row) → (length rows == 0) ≡ false → 0 < length rows
some_rows = grind arith

pub no_rows : (rows : List Row) (f : Finder) → (length rows == 0) ≡ true → Findable rows f
no_rows rows f h = findable_empty rows f (eqb-true (length rows) 0 h)
