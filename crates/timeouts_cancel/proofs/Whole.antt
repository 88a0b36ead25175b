-- The cascade is complete: applying its rules again adds nothing.
use Rattle.timeouts_cancel.proofs.Common.{◌≡◌, ℕ, ℤ, pos, Bool, true, false, refl, sym, ◌∙◌, ap, List, [], ◌∷◌, ◌+◌, ◌<◌, arith, Option, Some, None, slice_get, option_map_or, eqb-true, eq-eqb, Row, is_unfinished, Ending, result_in, given, or_else, is_listed, ecanceled, is_guard, joined, with_severed, with_met, with_guards, is_severed, guards_listed, is_met, counted_in, fall_of, severs_by, GuardsFormed, IsWhole, Severs, own_endings, severed_endings, ends_at, rising}
use Rattle.timeouts_cancel.proofs.{Again.any_at, Again.any_found, Again.result_there, Again.listed_row, Again.or_else_none, Again.given_none, Again.given_is, Again.joined_nothing, Walking.result_at, Tallying.joined_counts, Tallying.guard_counts, Tallying.met_counts, Severing.both, Severing.guard_not_bad, Severing.timeout_not_bad, Severing.severs_is, Severing.severed_by, Severing.severs_then}

-- ---- The lists, one rule after the other

abbrev pub ms : List Row → ℕ → List Ending → List Ending
ms rows c direct = with_met rows c (severed_endings rows direct)

-- The results that they have for an unfinished row.
in_ds : (rows : List Row) (direct : List Ending) (r : ℕ) (row : Row) → slice_get rows r ≡ Some row → is_unfinished row.phase ≡ true → result_in (own_endings rows direct) r ≡ result_in direct r
in_ds rows direct r row h u = listed_row (λ r row. result_in direct r) rows r row h u

in_ss : (rows : List Row) (direct : List Ending) (r : ℕ) (row : Row) → slice_get rows r ≡ Some row → is_unfinished row.phase ≡ true
    → result_in (severed_endings rows direct) r ≡ or_else (result_in (own_endings rows direct) r) (given (is_severed rows (own_endings rows direct) r row) ecanceled)
in_ss rows direct r row h u = listed_row (λ r row. or_else (result_in (own_endings rows direct) r) (given (is_severed rows (own_endings rows direct) r row) ecanceled)) rows r row h u

in_ms : (rows : List Row) (c : ℕ) (direct : List Ending) (r : ℕ) (row : Row) → slice_get rows r ≡ Some row → is_unfinished row.phase ≡ true
    → result_in (ms rows c direct) r ≡ or_else (result_in (severed_endings rows direct) r) (given (is_met (c + counted_in rows (severed_endings rows direct)) row) (pos 0))
in_ms rows c direct r row h u = listed_row (λ r row. or_else (result_in (severed_endings rows direct) r) (given (is_met (c + counted_in rows (severed_endings rows direct)) row) (pos 0))) rows r row h u

in_cascade : (rows : List Row) (c : ℕ) (direct : List Ending) (r : ℕ) (row : Row) → slice_get rows r ≡ Some row → is_unfinished row.phase ≡ true
    → result_in (fall_of rows c direct) r ≡ or_else (result_in (ms rows c direct) r) (given (guards_listed (ms rows c direct) row) ecanceled)
in_cascade rows c direct r row h u = listed_row (λ r row. or_else (result_in (ms rows c direct) r) (given (guards_listed (ms rows c direct) row) ecanceled)) rows r row h u

-- No rule of the cascade has a result for the row.
pub record Unlisted (rows : List Row) (c : ℕ) (direct : List Ending) (r : ℕ) (row : Row) : Type 0 where
  pub undirected : result_in direct r ≡ None
  pub severed : is_severed rows (own_endings rows direct) r row ≡ false
  pub met : is_met (c + counted_in rows (severed_endings rows direct)) row ≡ false
  pub guards : guards_listed (ms rows c direct) row ≡ false

pub unlisted : (rows : List Row) (c : ℕ) (direct : List Ending) (r : ℕ) (row : Row) → slice_get rows r ≡ Some row → is_unfinished row.phase ≡ true → result_in (fall_of rows c direct) r ≡ None → Unlisted rows c direct r row
unlisted rows c direct r row h u n =
    let a = or_else_none (result_in (ms rows c direct) r) _ (sym (in_cascade rows c direct r row h u) ∙ n) in
    let b = or_else_none (result_in (severed_endings rows direct) r) _ (sym (in_ms rows c direct r row h u) ∙ a.0) in
    let d = or_else_none (result_in (own_endings rows direct) r) _ (sym (in_ss rows direct r row h u) ∙ b.0) in
    record {
      undirected = sym (in_ds rows direct r row h u) ∙ d.0;
      severed = given_none _ ecanceled d.1;
      met = given_none _ (pos 0) b.1;
      guards = given_none _ ecanceled a.1;
    }

-- ---- Targets

unlisted_none : (es : List Ending) (r : ℕ) → is_listed es r ≡ false → result_in es r ≡ None
unlisted_none [] r h = refl
unlisted_none (e ∷ es) r h = grind (arith, unlisted_none es r)

-- If a linked timeout doesn't complete in the cascade, neither does its target.
pub target_stays : (rows : List Row) (c : ℕ) (direct : List Ending) (r t : ℕ) (row target : Row) → slice_get rows r ≡ Some row → is_unfinished row.phase ≡ true → is_guard row ≡ true → row.target ≡ Some t
    → slice_get rows t ≡ Some target → is_unfinished target.phase ≡ true → is_guard target ≡ false → result_in (fall_of rows c direct) r ≡ None → result_in (fall_of rows c direct) t ≡ None
target_stays rows c direct r t row target h u g k there v other n =
    let w = unlisted rows c direct r row h u n in
    let a = in_cascade rows c direct t target there v in
    grind (arith, unlisted_none)

-- ---- The rows that complete

abbrev pub last_test : List Row → ℕ → List Ending → ℕ → Row → Option ℤ
last_test rows c direct r row = or_else (result_in (ms rows c direct) r) (given (guards_listed (ms rows c direct) row) ecanceled)

pub cascade_unfinished : (rows : List Row) (c : ℕ) (direct : List Ending) (i : ℕ) (e : Ending) → slice_get (fall_of rows c direct) i ≡ Some e → (row : Row) × (slice_get rows e.0 ≡ Some row) × (is_unfinished row.phase ≡ true)
cascade_unfinished rows c direct i e h = let w = ends_at (last_test rows c direct) rows i e h in (w.0, w.1, w.2)

pub cascade_rising : (rows : List Row) (c : ℕ) (direct : List Ending) (i j : ℕ) (p q : Ending) → slice_get (fall_of rows c direct) i ≡ Some p → slice_get (fall_of rows c direct) j ≡ Some q → i < j → p.0 < q.0
cascade_rising rows c direct = rising (last_test rows c direct) rows

-- ---- What severs is a direct completion

true_false : (b : Bool) → b ≡ true → b ≡ false → ⊥
true_false b h k = cc

-- A row that fails in the cascade is a direct completion, or is severed by one.
from_direct : (rows : List Row) (c : ℕ) (direct : List Ending) (r : ℕ) (row : Row) (e : Ending) (i : ℕ) → slice_get (fall_of rows c direct) i ≡ Some e → Severs rows r row e → is_severed rows (own_endings rows direct) r row ≡ true
from_direct rows c direct r row e i h s =
    let w = cascade_unfinished rows c direct i e h in
    let u : is_unfinished s.before.phase ≡ true = let t = s.there in grind arith in
    let a = in_cascade rows c direct e.0 s.before s.there u in
    let b = in_ms rows c direct e.0 s.before s.there u in
    let d = in_ss rows direct e.0 s.before s.there u in
    let here : result_in (fall_of rows c direct) e.0 ≡ Some e.1 = result_at (fall_of rows c direct) i e (cascade_rising rows c direct) h in
    let own : result_in (own_endings rows direct) e.0 ≡ Some e.1 → is_severed rows (own_endings rows direct) r row ≡ true = λ k. (let t = result_there (own_endings rows direct) e.0 e.1 k in severed_by rows (own_endings rows direct) r row t.0 (e.0, e.1) t.1 (record { before = s.before; there = s.there; less = s.less; unit = s.unit; soft = s.soft; bad = s.bad })) in
    grind (arith, own, of_severed, guard_not_bad, timeout_not_bad)
  where
    of_severed : is_severed rows (own_endings rows direct) e.0 s.before ≡ true → is_severed rows (own_endings rows direct) r row ≡ true
    of_severed k =
        let f = any_found (λ (x : Ending). severs_by e.0 s.before (slice_get rows x.0) x) (own_endings rows direct) k in
        severed_by rows (own_endings rows direct) r row f.0 f.1 f.2 (severs_then rows e.0 r s.before row f.1 s.less s.unit (severs_is rows e.0 s.before f.1 f.3))

pub severed_again : (rows : List Row) (c : ℕ) (direct : List Ending) → with_severed rows (fall_of rows c direct) ≡ fall_of rows c direct
severed_again rows c direct =
    joined_nothing (λ r row. given (is_severed rows (fall_of rows c direct) r row) ecanceled) (λ r row. or_else (result_in (ms rows c direct) r) (given (guards_listed (ms rows c direct) row) ecanceled)) rows
    (λ r row h u n. none r row h u (in_cascade rows c direct r row h u ∙ n))
  where
    none : (r : ℕ) (row : Row) → slice_get rows r ≡ Some row → is_unfinished row.phase ≡ true → result_in (fall_of rows c direct) r ≡ None → given (is_severed rows (fall_of rows c direct) r row) ecanceled ≡ None
    none r row h u n =
        let v = (unlisted rows c direct r row h u n).severed in
        let not : is_severed rows (fall_of rows c direct) r row ≡ true → ⊥ = λ e. (let f = any_found (λ (x : Ending). severs_by r row (slice_get rows x.0) x) (fall_of rows c direct) e in let k = from_direct rows c direct r row f.1 f.0 f.2 (severs_is rows r row f.1 f.3) in cc) in
        grind arith

pub direct_again : (rows : List Row) (c : ℕ) (direct : List Ending) → joined rows (λ r row. result_in direct r) (fall_of rows c direct) ≡ fall_of rows c direct
direct_again rows c direct =
    joined_nothing (λ r row. result_in direct r) (λ r row. or_else (result_in (ms rows c direct) r) (given (guards_listed (ms rows c direct) row) ecanceled)) rows
    (λ r row h u n. (unlisted rows c direct r row h u (in_cascade rows c direct r row h u ∙ n)).undirected)

-- ---- What is counted

-- The TIMEOUTs and linked timeouts that complete in the cascade don't count.
pub counted_cascade : (rows : List Row) (c : ℕ) (direct : List Ending) → counted_in rows (fall_of rows c direct) ≡ counted_in rows (severed_endings rows direct)
counted_cascade rows c direct =
    joined_counts rows (λ r row. or_else (result_in (severed_endings rows direct) r) (given (is_met (c + counted_in rows (severed_endings rows direct)) row) (pos 0))) (λ r row. guards_listed (ms rows c direct) row) ecanceled
    (λ r row h. guard_counts row (both (is_guard row) (option_map_or (is_listed (ms rows c direct)) row.target false) h).0)
    ∙ joined_counts rows (λ r row. or_else (result_in (own_endings rows direct) r) (given (is_severed rows (own_endings rows direct) r row) ecanceled)) (λ r row. is_met (c + counted_in rows (severed_endings rows direct)) row) (pos 0)
    (λ r row h. met_counts (c + counted_in rows (severed_endings rows direct)) row h)

pub met_again : (rows : List Row) (c : ℕ) (direct : List Ending) → with_met rows c (fall_of rows c direct) ≡ fall_of rows c direct
met_again rows c direct =
    joined_nothing (λ r row. given (is_met (c + counted_in rows (fall_of rows c direct)) row) (pos 0)) (λ r row. or_else (result_in (ms rows c direct) r) (given (guards_listed (ms rows c direct) row) ecanceled)) rows
    (λ r row h u n. ap (λ k. given (is_met (c + k) row) (pos 0)) (counted_cascade rows c direct) ∙ ap (λ b. given b (pos 0)) (unlisted rows c direct r row h u (in_cascade rows c direct r row h u ∙ n)).met)

-- ---- Linked timeouts

-- A listed row that is no linked timeout was listed before the fourth rule.
listed_before : (rows : List Row) (c : ℕ) (direct : List Ending) (t : ℕ) → ((target : Row) → slice_get rows t ≡ Some target → is_guard target ≡ false) → is_listed (fall_of rows c direct) t ≡ true → is_listed (ms rows c direct) t ≡ true
listed_before = grind (arith, any_found, eqb-true, ends_at, result_there, any_at, eq-eqb, given_is, both, true_false)

pub guards_again : (rows : List Row) (c : ℕ) (direct : List Ending) → GuardsFormed rows → with_guards rows (fall_of rows c direct) ≡ fall_of rows c direct
guards_again rows c direct formed =
    joined_nothing (λ r row. given (guards_listed (fall_of rows c direct) row) ecanceled) (λ r row. or_else (result_in (ms rows c direct) r) (given (guards_listed (ms rows c direct) row) ecanceled)) rows
    (λ r row h u n. none r row h u (unlisted rows c direct r row h u (in_cascade rows c direct r row h u ∙ n)).guards)
  where
    none : (r : ℕ) (row : Row) → slice_get rows r ≡ Some row → is_unfinished row.phase ≡ true → guards_listed (ms rows c direct) row ≡ false → given (guards_listed (fall_of rows c direct) row) ecanceled ≡ None
    none r row h u k =
        let before : (x : ℕ) → is_guard row ≡ true → row.target ≡ Some x → is_listed (fall_of rows c direct) x ≡ true → is_listed (ms rows c direct) x ≡ true = λ x g t. listed_before rows c direct x (λ target there. formed r x row target h g u t there) in
        grind (arith, before)

pub whole : (rows : List Row) (c : ℕ) (direct : List Ending) → GuardsFormed rows → IsWhole rows c direct (fall_of rows c direct)
whole rows c direct formed = record { listed = direct_again rows c direct; severed = severed_again rows c direct; met = met_again rows c direct; guards = guards_again rows c direct formed }
