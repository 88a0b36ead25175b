-- The requests of a batch that complete as they are submitted, computed row by row.
use Rattle.links_drains.proofs.Common.{◌≡◌, ℕ, ℤ, zero, suc, Bool, true, false, cond, refl, sym, ◌∙◌, ap, List, [], ◌∷◌, ◌++◌, take, drop, length, replicate, get_or, ◌<◌, ◌≤◌, ◌+◌, ◌-◌, arith, Option, Some, None, option_map, is_some, slice_get, slice_set, ◌==◌, ◌&&◌, ◌||◌, option_and_then, cons_option, list_any, enumerate_from, eq-eqb, eqb-true, ne_eqb, and_left, and_right, get_or-drop, length-drop, length-set, length-replicate, length-take-le, take_all, slice_get_read, slice_get_within, get_or_from_slice_get, Submitted, Sqe, Row, slice_get-set, WorldState, chain_fails, chain_of, error_at, error_of, rows_of, direct_of, direct_result, ecanceled, given, or_else, paired, endings_from, is_unfinished, list_any-append, length-enumerate_from}
use Rattle.links_drains.proofs.{Batching.element_there, Batching.length-rows_of, Batching.take_more, Chains.Became, Chains.became, Chains.chain_before, Chains.enumerated, Listing.result_of, Listing.endings_step, Units.any_false}

-- ---- Rows of a batch

-- There are as many rows as entries.
pub many : (w : WorldState) (first : ℕ) (es : List Sqe) (rows : List Row) → drop first rows ≡ rows_of w first es → length rows - first ≡ length es
many w first es rows b = sym (length-drop first rows) ∙ ap length b ∙ length-rows_of w first es

-- A row at the end of a table, in the batch that the table ends with.
pub row_in : (w : WorldState) (es : List Sqe) (first : ℕ) (rows : List Row) (errors : List (Option ℤ)) (i : ℕ) (row : Row) → Submitted w es first rows errors → i < length rows - first → row ≡ get_or rows (first + i) row
    → (slice_get (drop first rows) i ≡ Some row) × (row.unit ≡ first + chain_of es i)
row_in w es first rows errors i row o h e = (here, ap (λ (x : Row). x.unit) (became w first es i row (sym (ap (λ (rs : List Row). slice_get rs i) o.batch) ∙ here)).is)
  where
    here : slice_get (drop first rows) i ≡ Some row
    here = let n = length-drop first rows in slice_get_read (drop first rows) (length (drop first rows)) i row refl (omega (arith, n, h)) (e ∙ sym (get_or-drop first rows i row))

-- ---- Chains that fail

-- Whether an entry belongs to the chain and fails.
abbrev fails_in : WorldState → List Sqe → ℕ → ℕ × Sqe → Bool
fails_in w es chain p = (chain_of es p.0 == chain) && is_some (error_of w es p.0 p.1)

-- Whether one of the first i entries does.
abbrev fails_to : WorldState → List Sqe → ℕ → ℕ → Bool
fails_to w es i chain = list_any (fails_in w es chain) (take i (enumerate_from 0 es))

fails_more : (w : WorldState) (es : List Sqe) (i chain : ℕ) (e : Sqe) → slice_get es i ≡ Some e → fails_to w es (i + 1) chain ≡ (fails_to w es i chain || (fails_in w es chain (i, e) || false))
fails_more w es i chain e h =
    ap (list_any (fails_in w es chain)) (take_more (enumerate_from 0 es) i (i, e) (enumerated es i ∙ ap (option_map (λ (x : Sqe). (i, x))) h))
    ∙ list_any-append (fails_in w es chain) (take i (enumerate_from 0 es)) ((i, e) ∷ [])

error_here : (w : WorldState) (es : List Sqe) (i : ℕ) (e : Sqe) → slice_get es i ≡ Some e → error_at w es i ≡ error_of w es i e
error_here w es i e h = ap (option_and_then (error_of w es i)) h

or_none : (a b : Bool) → b ≡ false → (a || (b || false)) ≡ a
or_none = grind arith

or_some : (a b : Bool) → b ≡ true → (a || (b || false)) ≡ true
or_some = grind arith

-- `failing` says for each chain whether one of the first i entries fails in it.
pub record FailingTo (w : WorldState) (es : List Sqe) (i : ℕ) (failing : List Bool) : Type 0 where
  pub len : length failing ≡ length es
  pub each : (u : ℕ) → u < length es → slice_get failing u ≡ Some (fails_to w es i u)

get-replicate : {X : Type 0} (n : ℕ) (x : X) (i : ℕ) → i < n → slice_get (replicate n x) i ≡ Some x
get-replicate zero x i h = absurd (omega (arith, h))
get-replicate (suc n) x zero h = refl
get-replicate (suc n) x (suc i) h = get-replicate n x i (omega (arith, h))

pub failing_none : (w : WorldState) (es : List Sqe) (failing : List Bool) (n : ℕ) → n ≡ length es → failing ≡ replicate n false → FailingTo w es 0 failing
failing_none = grind (arith, length-replicate, get-replicate)

-- All entries were examined.
pub failing_all : (w : WorldState) (es : List Sqe) (i : ℕ) (failing : List Bool) → FailingTo w es i failing → length es ≤ i → (u : ℕ) → u < length es → slice_get failing u ≡ Some (chain_fails w es u)
failing_all = grind (arith, take_all, length-enumerate_from)

-- The next entry is valid.
pub failing_on : (w : WorldState) (es : List Sqe) (i : ℕ) (failing : List Bool) → FailingTo w es i failing → i < length es → is_some (error_at w es i) ≡ false → FailingTo w es (i + 1) failing
failing_on w es i failing t h p = by (element_there es i h)
  where
    by : (e : Sqe) × (slice_get es i ≡ Some e) → FailingTo w es (i + 1) failing
    by (e, g) = record {
      len = t.len;
      each = λ u l. t.each u l ∙ ap Some (sym (fails_more w es i u e g ∙ or_none _ _ (and_right _ _ (sym (ap is_some (error_here w es i e g)) ∙ p))));
    }

-- The next entry fails.
pub failing_at : (w : WorldState) (es : List Sqe) (i at : ℕ) (failing : List Bool) → FailingTo w es i failing → i < length es → is_some (error_at w es i) ≡ true → at ≡ chain_of es i → FailingTo w es (i + 1) (slice_set failing at true)
failing_at w es i at failing t h p m = by (element_there es i h)
  where
    high : at < length failing
    high = let n = t.len in let c = chain_before es i in omega (arith, n, c, h, m)

    by : (e : Sqe) × (slice_get es i ≡ Some e) → FailingTo w es (i + 1) (slice_set failing at true)
    by (e, g) = record {
      len = length-set failing at true ∙ t.len;
      each = λ u l. slice_get-set failing at u true high ∙ ap (λ o. cond (at == u) (Some true) o) (t.each u l) ∙ fails_so u (at == u) refl ∙ ap Some (sym (fails_more w es i u e g));
    }
      where
        fails : is_some (error_of w es i e) ≡ true
        fails = sym (ap is_some (error_here w es i e g)) ∙ p

        fails_so : (u : ℕ) (b : Bool) → (at == u) ≡ b → cond b (Some true) (Some (fails_to w es i u)) ≡ Some (fails_to w es i u || (fails_in w es u (i, e) || false))
        fails_so u true k =
            let same = eqb-true at u k in
            ap Some (sym (or_some _ _ (ap (λ c. c && is_some (error_of w es i e)) (eq-eqb (chain_of es i) u (sym m ∙ same)) ∙ fails)))
        fails_so u false k = ap Some (sym (or_none _ _ (and_left _ _ (ne_eqb (chain_of es i) u (λ q. let x = sym k ∙ eq-eqb at u (m ∙ q) in cc)))))

-- ---- The list

pub endings_more : (f : ℕ → Row → Option ℤ) (n : ℕ) (rows : List Row) (row : Row) → endings_from f n (rows ++ row ∷ []) ≡ endings_from f n rows ++ cons_option (paired (n + length rows) (result_of f (n + length rows) row)) []
endings_more f n [] row = endings_step f n row [] ∙ (let m : n ≡ n + 0 = omega arith in ap (λ k. cons_option (paired k (result_of f k row)) []) m)
endings_more f n (x ∷ rows) row = grind (arith, endings_more f (n + 1) rows row)

-- The result of the next row, given whether its chain fails.
pub ends_more : (w : WorldState) (first : ℕ) (es : List Sqe) (rows : List Row) (i : ℕ) (row : Row) (failing : List Bool) (c b : Bool) (o p : Option ℤ) → rows ≡ rows_of w first es
    → slice_get rows i ≡ Some row → row.unit ≡ first + chain_of es i → ((u : ℕ) → u < length es → slice_get failing u ≡ Some (chain_fails w es u))
    → b ≡ get_or failing (row.unit - first) c → o ≡ or_else (error_at w es i) (given b ecanceled) → o ≡ p
    → endings_from (λ r x. direct_result w es (r - first)) first (take (i + 1) rows) ≡ endings_from (λ r x. direct_result w es (r - first)) first (take i rows) ++ cons_option (paired (first + i) p) []
ends_more w first es rows i row failing c b o p batch here unit known e g k =
    ap (endings_from test first) (take_more rows i row here)
    ∙ endings_more test first (take i rows) row
    ∙ ap (λ n. endings_from test first (take i rows) ++ cons_option (paired (first + n) (result_of test (first + n) row)) []) len
    ∙ ap (λ (z : Option ℤ). endings_from test first (take i rows) ++ cons_option (paired (first + i) z) []) (gives ∙ k)
  where
    test : ℕ → Row → Option ℤ
    test r x = direct_result w es (r - first)

    from : Became w first es i row
    from = became w first es i row (sym (ap (λ (rs : List Row). slice_get rs i) batch) ∙ here)

    len : length (take i rows) ≡ i
    len = let h = slice_get_within rows i row here in length-take-le i rows (omega (arith, h))

    fails_so : b ≡ chain_fails w es (chain_of es i)
    fails_so =
        let m : row.unit - first ≡ chain_of es i = omega (arith, unit) in
        let h = slice_get_within es i from.entry from.there in
        e ∙ ap (λ n. get_or failing n c) m ∙ get_or_from_slice_get failing (chain_of es i) _ c (known (chain_of es i) (omega (arith, h, chain_before es i)))

    queued : is_unfinished row.phase ≡ true
    queued = ap (λ (x : Row). is_unfinished x.phase) from.is

    gives : result_of test (first + i) row ≡ o
    gives =
        ap (λ c. cond c (test (first + i) row) None) queued
        ∙ (let m : first + i - first ≡ i = omega arith in ap (direct_result w es) m)
        ∙ ap (λ c. or_else (error_at w es i) (given c ecanceled)) (sym fails_so) ∙ sym g

-- ---- A batch in which no entry fails

ends_none : (f : ℕ → Row → Option ℤ) (n : ℕ) (rows : List Row) → ((r : ℕ) (row : Row) → f r row ≡ None) → endings_from f n rows ≡ []
ends_none f n [] h = refl
ends_none f n (row ∷ rows) h = grind (arith, h n row, ends_none f (n + 1) rows h)

pub direct_none : (w : WorldState) (first : ℕ) (es : List Sqe) → ((i : ℕ) → error_at w es i ≡ None) → direct_of w first es ≡ []
direct_none w first es h = ends_none _ first (rows_of w first es) (λ r row. rw (h (r - first), chain_passes (chain_of es (r - first))) refl)
  where
    chain_passes : (chain : ℕ) → chain_fails w es chain ≡ false
    chain_passes chain = any_false (fails_in w es chain) (enumerate_from 0 es) (λ i p g. by i p (slice_get es i) refl (sym (enumerated es i) ∙ g))
      where
        by : (i : ℕ) (p : ℕ × Sqe) (o : Option Sqe) → slice_get es i ≡ o → option_map (λ (x : Sqe). (i, x)) o ≡ Some p → fails_in w es chain p ≡ false
        by i p None g k = absurd cc
        by i p (Some e) g k =
            let same : (i, e) ≡ p = cc in
            ap (fails_in w es chain) (sym same) ∙ and_right _ _ (ap is_some (sym (error_here w es i e g) ∙ h i))
