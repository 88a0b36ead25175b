-- To issue a request together with its linked timeout is the same as to issue them one after the
-- other.
use Rattle.machine.proofs.Common.{◌≡◌, ℕ, Bool, true, false, refl, sym, ◌∙◌, ap, List, ◌+◌, arith, cases_eq, eq-eqb, ne_eqb, Option, Some, None, option_map, slice_get, if◌then◌else◌, option_map_or, Row, updated, same_list, get-updated, all_started, is_guard_of, started, started_with, AllGuardsLinked, mapped_at}
use Rattle.machine.proofs.GuardLemmas.{apart, guard_is_guard_of, here, started_in_turn, unfinished_queued}

none_changed : (f : Row → Row) (rows : List Row) (r i : ℕ) → slice_get rows i ≡ None → slice_get (updated f rows r) i ≡ None
none_changed = grind (arith, get-updated)

pub started_at_once : (c n : ℕ) (rows : List Row) (r : ℕ) → AllGuardsLinked rows → all_started c n rows r ≡ started_in_turn c n rows r
started_at_once c n rows r s = same_list _ _ (λ i. mapped_at (started_with c n r) rows i ∙ by i (slice_get rows i) refl)
  where
    f : Row → Row
    f = started c n

    follows : Bool
    follows = option_map_or (is_guard_of r) (slice_get rows (r + 1)) false

    -- With a linked timeout, and without.
    by_follows : (b : Bool) → follows ≡ b → started_in_turn c n rows r ≡ (if b then updated f (updated f rows r) (r + 1) else updated f rows r)
    by_follows b e = ap (λ (d : Bool). if d then updated f (updated f rows r) (r + 1) else updated f rows r) e

    -- The request itself.
    itself : (row : Row) → slice_get rows r ≡ Some row → (b : Bool) → follows ≡ b → slice_get (started_in_turn c n rows r) r ≡ Some (f row)
    itself = grind (arith, apart, here, f, by_follows)

    -- A request that is neither this one nor the next.
    other : (i : ℕ) → (r ≡ i → ⊥) → (r + 1 ≡ i → ⊥) → (b : Bool) → follows ≡ b → slice_get (started_in_turn c n rows r) i ≡ slice_get rows i
    other = grind (arith, apart, f, by_follows)

    -- The next request.
    next : (row : Row) → slice_get rows (r + 1) ≡ Some row → (b : Bool) → is_guard_of r row ≡ b → slice_get (started_in_turn c n rows r) (r + 1) ≡ Some (if b then f row else row)
    next = grind (arith, here, apart, f, by_follows)

    -- The linked timeout is the next request.
    guard_is_next : (i : ℕ) (row : Row) → slice_get rows i ≡ Some row → is_guard_of r row ≡ true → r + 1 ≡ i
    guard_is_next i row h g =
        let t = guard_is_guard_of r row g in
        let w = s i row h t.guard (unfinished_queued row.phase t.queued) in
        let same : w.target ≡ r = let o = sym w.is ∙ t.target in cc in
        let b = w.follows in
        omega (arith, same, b)

    apart_here : (i : ℕ) (row : Row) → slice_get rows i ≡ Some row → (r ≡ i → ⊥) → (r + 1 ≡ i → ⊥) → (b : Bool) → is_guard_of r row ≡ b → slice_get (started_in_turn c n rows r) i ≡ Some (if b then f row else row)
    apart_here = grind (arith, follows, other, guard_is_next)

    at : (i : ℕ) (row : Row) → slice_get rows i ≡ Some row → slice_get (started_in_turn c n rows r) i ≡ Some (started_with c n r i row)
    at = grind (arith, cases_eq, started_in_turn, eq-eqb, ne_eqb, f, follows, itself, next, apart_here)

    none : (i : ℕ) → slice_get rows i ≡ None → (b : Bool) → follows ≡ b → slice_get (started_in_turn c n rows r) i ≡ None
    none = grind (arith, none_changed, f, by_follows)

    by : (i : ℕ) (o : Option Row) → slice_get rows i ≡ o → option_map (λ row. started_with c n r i row) o ≡ slice_get (started_in_turn c n rows r) i
    by = grind (arith, follows, at, none)
