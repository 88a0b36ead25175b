-- Two searches for a match in turn: upwards through the issued requests, and downwards through those
-- with a hash.
use Rattle.timeouts_cancel.proofs.Common.{◌≡◌, ℕ, zero, suc, Bool, true, false, cond, refl, sym, ◌∙◌, ap, subst, List, [], ◌∷◌, length, ◌+◌, ◌-◌, ◌<◌, ◌≤◌, arith, Option, Some, None, IfSome, slice_get, slice_get_within, Row, is_match, user_of, FoundPast, IsMatch, NoMatch, Key}
use Rattle.links_drains.specs.Finders.{NoUser}

-- ---- Requests that can't match

pub one_fails : (rows : List Row) (key : Key) (me r : ℕ) (row : Row) → slice_get rows r ≡ Some row → is_match key me r row ≡ false → NoMatch rows key me r
one_fails rows key me r row h fails = λ x g. let same : row ≡ x = let k : Some row ≡ Some x = sym h ∙ g in cc in ap (is_match key me r) (sym same) ∙ fails

without_user : (rows : List Row) (key : Key) (me user_data low high : ℕ) → user_of key ≡ Some user_data → NoUser user_data rows low high → (i : ℕ) (x : Row) → low ≤ i → i < high → slice_get rows i ≡ Some x → is_match key me i x ≡ false
without_user = grind arith

-- ---- Downwards

pub found_none : (rows : List Row) (key : Key) (me user_data from end : ℕ) → user_of key ≡ Some user_data → NoUser user_data rows end (length rows) → FoundPast rows key me from end None
found_none rows key me user_data from end e none = λ i x low g. without_user rows key me user_data end (length rows) e none i x low (slice_get_within rows i x g) g

-- The last request matches.
pub found_last : (rows : List Row) (key : Key) (me user_data from last end : ℕ) (p : ℕ × Row) → user_of key ≡ Some user_data → from ≤ last → end ≤ last → NoUser user_data rows end last → IsMatch rows key me last p → FoundPast rows key me from end (Some p)
found_last = grind arith

-- It doesn't.
pub found_before : (rows : List Row) (key : Key) (me user_data from last end : ℕ) (least : Option (ℕ × Row)) → user_of key ≡ Some user_data → end ≤ last → NoUser user_data rows end last → NoMatch rows key me last → FoundPast rows key me from (last + 1) least → FoundPast rows key me from end least
found_before rows key me user_data from last end None e below none fails h = grind (arith, without_user)
found_before rows key me user_data from last end (Some p) e below none fails h = grind (arith, without_user)

-- One request further down.
pub found_step : (rows : List Row) (key : Key) (me user_data from end lower : ℕ) (row : Row) (later least : Option (ℕ × Row)) → user_of key ≡ Some user_data → from < end → lower ≤ end - 1 → NoUser user_data rows lower (end - 1) → slice_get rows (end - 1) ≡ Some row
    → least ≡ cond (is_match key me (end - 1) row) (Some (end - 1, row)) later → FoundPast rows key me from end later → FoundPast rows key me from lower least
found_step rows key me user_data from end lower row later least e low below none there chose h =
    let P : Option (ℕ × Row) → Type 0 = λ o. FoundPast rows key me from lower o in
    subst P (sym chose) (by (is_match key me (end - 1) row) refl)
  where
    by : (b : Bool) → is_match key me (end - 1) row ≡ b → FoundPast rows key me from lower (cond b (Some (end - 1, row)) later)
    by true k = found_last rows key me user_data from (end - 1) lower (end - 1, row) e (omega (arith, low)) below none (record { number = refl; there = there; matching = k })
    by false k = let n : end ≡ end - 1 + 1 = omega (arith, low) in found_before rows key me user_data from (end - 1) lower later e below none (one_fails rows key me (end - 1) row there k) (rw n at h)

pub there : (rows : List Row) (i : ℕ) → i < length rows → (row : Row) × (slice_get rows i ≡ Some row)
there [] i h = absurd (omega (arith, h))
there (x ∷ rows) zero h = (x, refl)
there (x ∷ rows) (suc i) h = there rows i (omega (arith, h))

-- ---- They meet

pub met_few : (rows : List Row) (key : Key) (me from end : ℕ) (o : Option (ℕ × Row)) → length rows ≤ 65536 → FoundPast rows key me from end o → IfSome o (λ q. q.0 < 65536)
met_few = grind (arith, slice_get_within)
