-- Requests that complete one after the other, by ascending number.
use Rattle.links_drains.proofs.Common.{◌≡◌, ℕ, ℤ, zero, suc, Bool, true, false, cond, refl, sym, ◌∙◌, ap, List, [], ◌∷◌, length, drop, ◌+◌, ◌<◌, ◌≤◌, arith, Some, None, option_map, slice_get, ◌==◌, eqb-true, slice_get-map, slice_get_within, Row, Ended, updated, Keeps, keeps_then, same_list, Direct, Ending, ended_by, result_in, map_numbered, Stay, table_owns, table_seen, common_steps, Notes}
use Rattle.links_drains.proofs.{Chains.enumerated, Remaining.stay_then, RowsKept.get-updated}

pub mapped_at : (f : ℕ → Row → Row) (rows : List Row) (i : ℕ) → slice_get (map_numbered f rows) i ≡ option_map (λ row. f i row) (slice_get rows i)
mapped_at = grind (arith, slice_get-map, enumerated)

-- The requests from index i on, of a list.
cut_at : (es : List Ending) (i : ℕ) (e : Ending) → slice_get es i ≡ Some e → drop i es ≡ e ∷ drop (suc i) es
cut_at [] i e h = absurd cc
cut_at (x ∷ es) zero e h = let k : x ≡ e = cc in ap (λ y. y ∷ es) k
cut_at (x ∷ es) (suc i) e h = cut_at es i e h

drop_at : (es : List Ending) (i j : ℕ) → slice_get (drop i es) j ≡ slice_get es (i + j)
drop_at es zero j = ap (slice_get es) (omega arith)
drop_at [] (suc i) j = refl
drop_at (x ∷ es) (suc i) j = drop_at es i j ∙ sym (ap (slice_get (x ∷ es)) (let n : suc i + j ≡ suc (i + j) = omega arith in n))

all_dropped : (es : List Ending) (i : ℕ) → length es ≤ i → drop i es ≡ []
all_dropped = grind (arith, common_steps)

not_listed : (es : List Ending) (r : ℕ) → ((j : ℕ) (p : Ending) → slice_get es j ≡ Some p → r < p.0) → result_in es r ≡ None
not_listed [] r h = refl
not_listed (e ∷ es) r h = by (e.0 == r) refl (not_listed es r (λ j p g. h (suc j) p g))
  where
    by : (b : Bool) → (e.0 == r) ≡ b → result_in es r ≡ None → cond b (Some e.1) (result_in es r) ≡ None
    by true k more = absurd (let l = h 0 e refl in let s = eqb-true e.0 r k in omega (arith, l, s))
    by false k more = more

-- A request after it completed.
abbrev ending : ℤ → Row → Row
ending res row = record row { phase = Ended res }

-- The first request completes, then the others.
pub first_ended : (rows : List Row) (e : Ending) (es : List Ending) → result_in es e.0 ≡ None → map_numbered (ended_by es) (updated (ending e.1) rows e.0) ≡ map_numbered (ended_by (e ∷ es)) rows
first_ended = grind (arith, same_list, mapped_at, get-updated, eqb-true)

pub none_ended : (rows : List Row) → map_numbered (ended_by []) rows ≡ rows
none_ended = grind (arith, same_list, mapped_at)

-- ---- One by one

-- The first i listed requests have completed.
pub record EndingRows (before now : List Row) (old new : Notes) (es : List Ending) (i : ℕ) : Type 0 where
  pub few : i ≤ length es
  pub rows : map_numbered (ended_by (drop i es)) now ≡ map_numbered (ended_by es) before
  pub len : length now ≡ length before
  pub stay : Stay before now
  pub keeps : Keeps table_owns (table_seen before) (table_seen now) old.made new.made
  pub numbers : old.numbers ≤ new.numbers
  pub completions : old.completions ≤ new.completions
  pub others : old.others ≤ new.others + i

pub ending_on : (before now later : List Row) (old new newer : Notes) (es : List Ending) (i : ℕ) (e : Ending) → EndingRows before now old new es i → Direct before es → slice_get es i ≡ Some e → later ≡ updated (ending e.1) now e.0
    → length later ≡ length now → Stay now later → Keeps table_owns (table_seen now) (table_seen later) new.made newer.made → new.numbers ≤ newer.numbers → new.completions ≤ newer.completions → new.others ≤ newer.others + 1 → EndingRows before later old newer es (i + 1)
ending_on = grind (arith, slice_get_within, first_ended, cut_at, stay_then, keeps_then, not_listed, drop_at)

pub ending_done : (before now : List Row) (old new : Notes) (es : List Ending) (i : ℕ) → EndingRows before now old new es i → length es ≤ i → now ≡ map_numbered (ended_by es) before
ending_done before now old new es i t h = sym (none_ended now) ∙ ap (λ xs. map_numbered (ended_by xs) now) (sym (all_dropped es i h)) ∙ t.rows
