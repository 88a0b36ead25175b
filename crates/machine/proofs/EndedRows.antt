-- Requests that complete together.
use Rattle.machine.proofs.Common.{◌≡◌, ℕ, ℤ, zero, suc, Bool, true, false, cond, refl, sym, ◌∙◌, ap, subst, List, [], ◌∷◌, length, ◌+◌, ◌<◌, ◌≤◌, ◌⊎◌, arith, rules, eqb-true, Option, Some, None, option_map, slice_get, not, ◌==◌, option_map_or, Row, Ended, updated, length-updated, Direct, Ending, ended_by, result_in, Chained, map_numbered, counted_of, counts, ended_of, is_ended, chained-updated, counted-ended, ended-ended, ended-le-length, first_ended, mapped_at, none_ended, get-updated, counted_in}
use Rattle.machine.proofs.GuardLemmas.{here}

-- A request after it completed.
abbrev ending : ℤ → Row → Row
ending res row = record row { phase = Ended res }

-- Each listed request is unfinished when its turn comes.
abbrev pub CanEnd : List Row → List Ending → Type 0
CanEnd rows [] = Unit {0}
CanEnd rows (e ∷ es) = (x : Row) × (slice_get rows e.0 ≡ Some x) × (is_ended x.phase ≡ false) × CanEnd (updated (ending e.1) rows e.0) es

updated_other : (f : Row → Row) (rows : List Row) (r j : ℕ) → r < j → slice_get (updated f rows r) j ≡ slice_get rows j
updated_other f [] r j h = refl
updated_other f (x ∷ rows) zero zero h = absurd (omega arith)
updated_other f (x ∷ rows) zero (suc j) h = refl
updated_other f (x ∷ rows) (suc r) zero h = absurd (omega arith)
updated_other f (x ∷ rows) (suc r) (suc j) h = updated_other f rows r j (omega arith)

not_ended : (b : Bool) → not b ≡ true → b ≡ false
not_ended = grind arith

pub can_end : (rows : List Row) (es : List Ending) → Direct rows es → CanEnd rows es
can_end rows [] h = tt
can_end rows (e ∷ es) h =
    let first = h.each 0 e refl in (
      first.0,
      first.1,
      not_ended (is_ended first.0.phase) first.2,
      can_end (updated (ending e.1) rows e.0) es (record {
        each = λ i q g. let x = h.each (suc i) q g in (x.0, updated_other (ending e.1) rows e.0 q.0 (h.rising 0 (suc i) e q refl g (omega arith)) ∙ x.1, x.2);
        rising = λ i j p q g k l. h.rising (suc i) (suc j) p q g k (omega arith);
      }),
    )

-- A completed request doesn't complete again.
listed_once : (rows : List Row) (es : List Ending) (r : ℕ) (row : Row) → CanEnd rows es → slice_get rows r ≡ Some row → is_ended row.phase ≡ true → result_in es r ≡ None
listed_once rows [] r row h g u = refl
listed_once rows (e ∷ es) r row h g u = by (e.0 == r) refl (λ k. listed_once (updated (ending e.1) rows e.0) es r row h.3 k u)
  where
    by : (b : Bool) → (e.0 == r) ≡ b → (slice_get (updated (ending e.1) rows e.0) r ≡ Some row → result_in es r ≡ None) → cond b (Some e.1) (result_in es r) ≡ None
    by = grind (arith, eqb-true, get-updated)

-- ---- Counts

-- Fields that the completion of a request doesn't change.
left_alone : {X : Type 0} (f : Row → X) (rows : List Row) (r j : ℕ) (res : ℤ) → ((row : Row) → f (ending res row) ≡ f row) → option_map f (slice_get (updated (ending res) rows r) j) ≡ option_map f (slice_get rows j)
left_alone = grind (arith, get-updated)

mapped_or : (o : Option Row) → option_map_or counts o false ≡ option_map_or (λ (b : Bool). b) (option_map counts o) false
mapped_or = grind arith

counted_more : (rows : List Row) (e : Ending) (es : List Ending) → counted_in rows (e ∷ es) ≡ cond (option_map_or counts (slice_get rows e.0) false) 1 0 + counted_in rows es
counted_more = grind arith

counted_same : (rows : List Row) (r : ℕ) (res : ℤ) (es : List Ending) → counted_in (updated (ending res) rows r) es ≡ counted_in rows es
counted_same = search (rules, counted_more, mapped_or, left_alone)

-- The table after the listed requests completed.
pub record EndedTogether (rows : List Row) (es : List Ending) (after : List Row) : Type 0 where
  pub ended : ended_of after ≡ ended_of rows + length es
  pub counted : counted_of after ≡ counted_of rows + counted_in rows es
  pub chained : Chained rows → Chained after
  pub same_length : length after ≡ length rows

ended_first : (rows : List Row) (e : Ending) (es : List Ending) (h : CanEnd rows (e ∷ es)) → EndedTogether (updated (ending e.1) rows e.0) es (map_numbered (ended_by es) (updated (ending e.1) rows e.0)) → EndedTogether rows (e ∷ es) (map_numbered (ended_by (e ∷ es)) rows)
ended_first rows e es h k = subst (EndedTogether rows (e ∷ es)) first (record {
  ended = let a = ended-ended rows e.0 h.0 e.1 h.1 h.2 in let x = k.ended in omega (arith, x, a);
  counted = by (counted_of rows) (counts h.0) (counted-ended rows e.0 h.0 e.1 h.1 h.2) (ap (λ o. cond (option_map_or counts o false) 1 0) h.1) k.counted (counted_more rows e es) (counted_same rows e.0 e.1 es);
  chained = λ x. k.chained (chained-updated (ending e.1) rows e.0 (λ y. refl) x);
  same_length = k.same_length ∙ length-updated (ending e.1) rows e.0;
})
  where
    first : map_numbered (ended_by es) (updated (ending e.1) rows e.0) ≡ map_numbered (ended_by (e ∷ es)) rows
    first = first_ended rows e es (listed_once (updated (ending e.1) rows e.0) es e.0 (ending e.1 h.0) h.3 (here (ending e.1) rows e.0 h.0 h.1) refl)

    by : (n : ℕ) {a b c d l q : ℕ} (t : Bool) → a ≡ cond t (n + 1) n → l ≡ cond t 1 0 → b ≡ a + c → d ≡ l + q → c ≡ q → b ≡ n + d
    by = grind arith

pub ended_together : (rows : List Row) (es : List Ending) → CanEnd rows es → EndedTogether rows es (map_numbered (ended_by es) rows)
ended_together rows [] h = subst (EndedTogether rows []) (sym (none_ended rows)) (record { ended = omega arith; counted = omega arith; chained = λ c. c; same_length = refl })
ended_together rows (e ∷ es) h = ended_first rows e es h (ended_together (updated (ending e.1) rows e.0) es h.3)

-- There are at most as many as unfinished requests.
pub can_end_most : (rows : List Row) (es : List Ending) → CanEnd rows es → ended_of rows + length es ≤ length rows
can_end_most = grind (arith, ended_together, ended-le-length)

-- ---- Each request

-- A completed request has completed, and no other changes.
pub ended_or_same : (rows : List Row) (es : List Ending) (j : ℕ) (y : Row) → slice_get (map_numbered (ended_by es) rows) j ≡ Some y → ((slice_get rows j ≡ Some y) × (result_in es j ≡ None)) ⊎ (is_ended y.phase ≡ true)
ended_or_same = grind (arith, mapped_at)

-- A request that isn't listed doesn't change.
pub unlisted_same : (rows : List Row) (es : List Ending) (j : ℕ) → result_in es j ≡ None → slice_get (map_numbered (ended_by es) rows) j ≡ slice_get rows j
unlisted_same = grind (arith, mapped_at)
