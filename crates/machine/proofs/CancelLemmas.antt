-- A cancellation completes unfinished requests, by ascending number.
use Rattle.std.proofs.Common.{◌≡◌, ℕ, pos, zero, suc, Bool, true, false, not, cond, refl, sym, ◌∙◌, ap, subst, List, [], ◌∷◌, ◌++◌, length, map, ◌+◌, ◌<◌, ◌≤◌, le_refl, arith}
use Rattle.std.proofs.lemmas.Bool.{ltb-true}
use Rattle.machine.proofs.Common.{Option, Some, None, slice_get, ◌==◌, ◌&&◌, nat_lt, if◌then◌else◌, filter, enumerate_from, slice_get_within, Sqe, Row, Phase, WorldState, is_running, Ending, ecanceled, Direct, is_guard, is_ended, is_issued, is_unfinished, enumerated, Verdict, key_of, takes_all, on_found, on_all, verdict_of, canceled, ending_with, fits_key, is_match, matches_of, found_by, found_first, is_waiting_match, waiting_by}
use Rattle.timeouts_cancel.{specs.declared.matching.Key.Key, specs.declared.matching.Found.TheVariants.Running, specs.declared.matching.Found.TheVariants.Waiting, specs.declared.matching.Found.Found, proofs.Severing.both}

-- ---- Sorted completions

-- Completions of unfinished requests, by ascending number, in a range of numbers.
abbrev Rises : List Row → ℕ → ℕ → List Ending → Type 0
Rises rows from to [] = from ≤ to
Rises rows from to (e ∷ es) = (x : Row) × (slice_get rows e.0 ≡ Some x) × (is_unfinished x.phase ≡ true) × (from ≤ e.0) × Rises rows (e.0 + 1) to es

rises_less : (rows : List Row) (a b c : ℕ) (es : List Ending) → a ≤ b → Rises rows b c es → Rises rows a c es
rises_less rows a b c [] l h = omega (arith, l, h)
rises_less rows a b c (e ∷ es) l h = let n = h.3 in (h.0, h.1, h.2, omega (arith, l, n), h.4)

rises_join : (rows : List Row) (a b c : ℕ) (es fs : List Ending) → Rises rows a b es → Rises rows b c fs → Rises rows a c (es ++ fs)
rises_join rows a b c [] fs h k = rises_less rows a b c fs h k
rises_join rows a b c (e ∷ es) fs h k = (h.0, h.1, h.2, h.3, rises_join rows (e.0 + 1) b c es fs h.4 k)

rises_each : (rows : List Row) (a b : ℕ) (es : List Ending) → Rises rows a b es → (i : ℕ) (e : Ending) → slice_get es i ≡ Some e → (x : Row) × (slice_get rows e.0 ≡ Some x) × (is_unfinished x.phase ≡ true)
rises_each rows a b [] h i e k = absurd cc
rises_each rows a b (d ∷ es) h zero e k = let same : d ≡ e = cc in subst (λ (z : Ending). (x : Row) × (slice_get rows z.0 ≡ Some x) × (is_unfinished x.phase ≡ true)) same (h.0, h.1, h.2)
rises_each rows a b (d ∷ es) h (suc i) e k = rises_each rows (d.0 + 1) b es h.4 i e k

rises_above : (rows : List Row) (a b : ℕ) (es : List Ending) → Rises rows a b es → (i : ℕ) (e : Ending) → slice_get es i ≡ Some e → a ≤ e.0
rises_above rows a b [] h i e k = absurd cc
rises_above rows a b (d ∷ es) h zero e k = let same : d ≡ e = cc in subst (λ (z : Ending). a ≤ z.0) same h.3
rises_above rows a b (d ∷ es) h (suc i) e k = let n = rises_above rows (d.0 + 1) b es h.4 i e k in let l = h.3 in omega (arith, n, l)

rises_order : (rows : List Row) (a b : ℕ) (es : List Ending) → Rises rows a b es → (i j : ℕ) (p q : Ending) → slice_get es i ≡ Some p → slice_get es j ≡ Some q → i < j → p.0 < q.0
rises_order rows a b [] h i j p q k g l = absurd cc
rises_order rows a b (d ∷ es) h i zero p q k g l = absurd (omega (arith, l))
rises_order rows a b (d ∷ es) h zero (suc j) p q k g l =
    let same : d ≡ p = cc in let n = rises_above rows (d.0 + 1) b es h.4 j q g in subst (λ (z : Ending). z.0 < q.0) same (omega (arith, n))
rises_order rows a b (d ∷ es) h (suc i) (suc j) p q k g l = rises_order rows (d.0 + 1) b es h.4 i j p q k g (omega (arith, l))

rises_direct : (rows : List Row) (a b : ℕ) (es : List Ending) → Rises rows a b es → Direct rows es
rises_direct rows a b es h = record { each = rises_each rows a b es h; rising = rises_order rows a b es h }

-- ---- The canceled requests

-- Unfinished requests, by ascending number, from a number on.
abbrev Others : List Row → ℕ → List ℕ → Type 0
Others rows from [] = Unit {0}
Others rows from (r ∷ rs) = (x : Row) × (slice_get rows r ≡ Some x) × (is_unfinished x.phase ≡ true) × (from ≤ r) × Others rows (r + 1) rs

others_less : (rows : List Row) (a b : ℕ) (rs : List ℕ) → a ≤ b → Others rows b rs → Others rows a rs
others_less rows a b [] l h = tt
others_less rows a b (r ∷ rs) l h = let n = h.3 in (h.0, h.1, h.2, omega (arith, l, n), h.4)

rises_before : (rows : List Row) (me from : ℕ) (rs : List ℕ) → Others rows from rs → from ≤ me → Rises rows from me (canceled (λ r. nat_lt r me) rs)
rises_before rows me from [] h l = l
rises_before rows me from (r ∷ rs) h l =
    let n = h.3 in
    by (nat_lt r me) refl (rises_before rows me (r + 1) rs h.4) (rises_before rows me from rs (others_less rows from (r + 1) rs (omega (arith, n)) h.4) l)
  where
    by : (b : Bool) → nat_lt r me ≡ b → (r + 1 ≤ me → Rises rows (r + 1) me (canceled (λ q. nat_lt q me) rs)) → Rises rows from me (canceled (λ q. nat_lt q me) rs)
        → Rises rows from me (map (λ (q : ℕ). (q, ecanceled)) (cond b (r ∷ filter (λ q. nat_lt q me) rs) (filter (λ q. nat_lt q me) rs)))
    by true e below here = (h.0, h.1, h.2, h.3, below (let less = ltb-true r me e in omega (arith, less)))
    by false e below here = here

rises_after : (rows : List Row) (me start from : ℕ) (rs : List ℕ) → Others rows from rs → start ≤ length rows → ((r : ℕ) → from ≤ r → me < r → start ≤ r) → Rises rows start (length rows) (canceled (λ r. nat_lt me r) rs)
rises_after rows me start from [] h l high = l
rises_after rows me start from (r ∷ rs) h l high =
    let n = h.3 in
    by (nat_lt me r) refl (rises_after rows me (r + 1) (r + 1) rs h.4 (let a = slice_get_within rows r h.0 h.1 in omega (arith, a)) (λ q a b. a))
    (rises_after rows me start (r + 1) rs h.4 l (λ q a b. high q (omega (arith, a, n)) b))
  where
    by : (b : Bool) → nat_lt me r ≡ b → Rises rows (r + 1) (length rows) (canceled (λ q. nat_lt me q) rs) → Rises rows start (length rows) (canceled (λ q. nat_lt me q) rs)
        → Rises rows start (length rows) (map (λ (q : ℕ). (q, ecanceled)) (cond b (r ∷ filter (λ q. nat_lt me q) rs) (filter (λ q. nat_lt me q) rs)))
    by true e above here = let n = h.3 in (h.0, h.1, h.2, high r n (ltb-true me r e), above)
    by false e above here = here

direct_around : (rows : List Row) (me : ℕ) (x : Row) (v : Verdict) → slice_get rows me ≡ Some x → is_ended x.phase ≡ false → Others rows 0 v.1 → Direct rows (ending_with me v)
direct_around rows me x v e u o =
    let within = slice_get_within rows me x e in
    rises_direct rows 0 (length rows) (ending_with me v)
    (rises_join rows 0 me (length rows) (canceled (λ r. nat_lt r me) v.1) ((me, v.0) ∷ canceled (λ r. nat_lt me r) v.1) (rises_before rows me 0 v.1 o (omega arith))
    (x, e, ap not u, le_refl me, rises_after rows me (me + 1) 0 v.1 o (omega (arith, within)) (λ r a b. omega (arith, b))))

-- ---- Requests that match

abbrev number : ℕ × Row → ℕ
number p = p.0

-- The rows that pass a test that only unfinished ones pass.
others_from : (all : List Row) (test : ℕ × Row → Bool) → ((p : ℕ × Row) → test p ≡ true → is_unfinished p.1.phase ≡ true) → (n : ℕ) (rows : List Row) → ((i : ℕ) (x : Row) → slice_get rows i ≡ Some x → slice_get all (n + i) ≡ Some x)
    → Others all n (map number (filter test (enumerate_from n rows)))
others_from all test onwards n [] there = tt
others_from all test onwards n (row ∷ rows) there =
    by (test (n, row)) refl (others_from all test onwards (n + 1) rows (λ i x e. let k : n + 1 + i ≡ n + suc i = omega arith in ap (slice_get all) k ∙ there (suc i) x e))
  where
    here : slice_get all n ≡ Some row
    here = let k : n ≡ n + 0 = omega arith in ap (slice_get all) k ∙ there 0 row refl

    by : (b : Bool) → test (n, row) ≡ b → Others all (n + 1) (map number (filter test (enumerate_from (n + 1) rows)))
        → Others all n (map number (cond b ((n, row) ∷ filter test (enumerate_from (n + 1) rows)) (filter test (enumerate_from (n + 1) rows))))
    by true e more = (row, here, onwards (n, row) e, le_refl n, more)
    by false e more = others_less all n (n + 1) (map number (filter test (enumerate_from (n + 1) rows))) (omega arith) more

-- An item that passes a filter's test is in the list.
passing : {X : Type 0} (test : X → Bool) (xs : List X) (i : ℕ) (x : X) → slice_get (filter test xs) i ≡ Some x → (j : ℕ) × (slice_get xs j ≡ Some x) × (test x ≡ true)
passing test [] i x h = absurd cc
passing {X} test (y ∷ ys) i x h = by (test y) refl i h (λ k g. passing test ys k x g)
  where
    by : (b : Bool) → test y ≡ b → (k : ℕ) → slice_get (cond b (y ∷ filter test ys) (filter test ys)) k ≡ Some x → ((k : ℕ) → slice_get (filter test ys) k ≡ Some x → (j : ℕ) × (slice_get ys j ≡ Some x) × (test x ≡ true))
        → (j : ℕ) × (slice_get (y ∷ ys) j ≡ Some x) × (test x ≡ true)
    by true e zero g more = let same : y ≡ x = cc in (0, g, ap test (sym same) ∙ e)
    by true e (suc k) g more = let m = more k g in (suc m.0, m.1, m.2)
    by false e k g more = let m = more k g in (suc m.0, m.1, m.2)

-- The first row that passes a test.
first_there : (rows : List Row) (test : ℕ × Row → Bool) (p : ℕ × Row) → slice_get (filter test (enumerate_from 0 rows)) 0 ≡ Some p → (slice_get rows p.0 ≡ Some p.1) × (test p ≡ true)
first_there = grind (arith, passing, enumerated)

negated : (b : Bool) → not b ≡ true → b ≡ false
negated true h = absurd cc
negated false h = refl

issued_open : (p : Phase) → is_issued p ≡ true → is_unfinished p ≡ true
issued_open = grind arith

match_open : (key : Key) (me : ℕ) (p : ℕ × Row) → is_match key me p.0 p.1 ≡ true → is_unfinished p.1.phase ≡ true
match_open key me p h = issued_open p.1.phase (both (is_issued p.1.phase) (not (is_guard p.1) && (not (p.0 == me) && fits_key key p.1)) h).0

others_waiting : (rows : List Row) (w : WorldState) (key : Key) (me : ℕ) → Others rows 0 (waiting_by rows w key me)
others_waiting rows w key me =
    others_from rows (λ p. is_waiting_match w key me p.0 p.1) (λ p h. match_open key me p (both (is_match key me p.0 p.1) (not (is_running w p.1)) h).0) 0 rows
    (λ i x e. let k : 0 + i ≡ i = omega arith in ap (slice_get rows) k ∙ e)

others_found : (rows : List Row) (w : WorldState) (key : Key) (me : ℕ) → Others rows 0 (on_found (found_by rows w key me)).1
others_found rows w key me = by (slice_get (matches_of rows key me) 0) refl
  where
    waits : (p : ℕ × Row) → slice_get (matches_of rows key me) 0 ≡ Some p → (b : Bool) → Others rows 0 (on_found (if b then Running p.0 else Waiting p.0)).1
    waits p e true = tt
    waits p e false = let t = first_there rows (λ q. is_match key me q.0 q.1) p e in (p.1, t.0, match_open key me p t.1, omega arith, tt)

    by : (o : Option (ℕ × Row)) → slice_get (matches_of rows key me) 0 ≡ o → Others rows 0 (on_found (found_first w o)).1
    by = grind (arith, waits)

others_of : (rows : List Row) (w : WorldState) (me : ℕ) (entry : Sqe) → Others rows 0 (verdict_of rows w me entry).1
others_of = grind (arith, others_waiting, others_found)

-- A cancellation and the requests that it cancels are valid direct completions.
pub direct_cancel : (rows : List Row) (w : WorldState) (me : ℕ) (entry : Sqe) (x : Row) → slice_get rows me ≡ Some x → is_ended x.phase ≡ false → Direct rows (ending_with me (verdict_of rows w me entry))
direct_cancel rows w me entry x e u = direct_around rows me x (verdict_of rows w me entry) e u (others_of rows w me entry)

-- ---- The outcome

pub verdict_all : (rows : List Row) (w : WorldState) (me : ℕ) (entry : Sqe) (key : Key) → key ≡ key_of entry → takes_all entry ≡ true → on_all (waiting_by rows w key me) ≡ verdict_of rows w me entry
verdict_all rows w me entry key k t =
    ap (λ (q : Key). on_all (waiting_by rows w q me)) k ∙ sym (ap (λ (b : Bool). cond b (on_all (waiting_by rows w (key_of entry) me)) (on_found (found_by rows w (key_of entry) me))) t)

pub verdict_first : (rows : List Row) (w : WorldState) (me : ℕ) (entry : Sqe) (key : Key) → key ≡ key_of entry → takes_all entry ≡ false → on_found (found_by rows w key me) ≡ verdict_of rows w me entry
verdict_first rows w me entry key k t =
    ap (λ (q : Key). on_found (found_by rows w q me)) k ∙ sym (ap (λ (b : Bool). cond b (on_all (waiting_by rows w (key_of entry) me)) (on_found (found_by rows w (key_of entry) me))) t)

-- ---- The request that is found

-- A cancellation that finds a later request completes before it.
pub found_later : (found : Found) (me r q : ℕ) → found ≡ Waiting q → found ≡ Waiting r → me ≤ q → (r == me) ≡ false → ending_with me (on_found found) ≡ (me, pos 0) ∷ (r, ecanceled) ∷ []
found_later found me r q e f low other = ap (λ (x : Found). ending_with me (on_found x)) f ∙ by (nat_lt r me) refl (nat_lt me r) refl
  where
    later : me ≤ r
    later = let same : q ≡ r = let k : Waiting q ≡ Waiting r = sym e ∙ f in cc in omega (arith, same, low)

    by : (a : Bool) → nat_lt r me ≡ a → (b : Bool) → nat_lt me r ≡ b
        → ◌++◌ {A = Ending} (map (λ (k : ℕ). (k, ecanceled)) (cond a (r ∷ []) [])) ((me, pos 0) ∷ map (λ (k : ℕ). (k, ecanceled)) (cond b (r ∷ []) [])) ≡ (me, pos 0) ∷ (r, ecanceled) ∷ []
    by = grind (arith, later, other)

-- A cancellation doesn't find itself.
pub other_found : (rows : List Row) (w : WorldState) (key : Key) (me r : ℕ) → found_by rows w key me ≡ Waiting r → (r == me) ≡ false
other_found rows w key me r = by (slice_get (matches_of rows key me) 0) refl
  where
    another : (p : ℕ × Row) → slice_get (matches_of rows key me) 0 ≡ Some p → not (p.0 == me) ≡ true
    another p e =
        let t = (first_there rows (λ q. is_match key me q.0 q.1) p e).1 in
        let a = (both (is_issued p.1.phase) (not (is_guard p.1) && (not (p.0 == me) && fits_key key p.1)) t).1 in
        let b = (both (not (is_guard p.1)) (not (p.0 == me) && fits_key key p.1) a).1 in
        (both (not (p.0 == me)) (fits_key key p.1) b).0

    waits : (p : ℕ × Row) → not (p.0 == me) ≡ true → (b : Bool) → (if b then Running p.0 else Waiting p.0) ≡ Waiting r → (r == me) ≡ false
    waits p e true h = absurd cc
    waits p e false h = let same : p.0 ≡ r = cc in negated (r == me) (subst (λ (q : ℕ). not (q == me) ≡ true) same e)

    by : (o : Option (ℕ × Row)) → slice_get (matches_of rows key me) 0 ≡ o → found_first w o ≡ Waiting r → (r == me) ≡ false
    by None e h = absurd cc
    by (Some p) e h = waits p (another p e) (is_running w p.1) h

-- ---- How many there are

few_from : (test : ℕ × Row → Bool) (n : ℕ) (rows : List Row) → length (map number (filter test (enumerate_from n rows))) ≤ length rows
few_from test n [] = omega arith
few_from test n (row ∷ rows) = grind (arith, few_from test (n + 1) rows)

-- At most as many requests wait as there are.
pub few_waiting : (rows : List Row) (w : WorldState) (key : Key) (me : ℕ) → length (waiting_by rows w key me) ≤ length rows
few_waiting rows w key me = few_from (λ p. is_waiting_match w key me p.0 p.1) 0 rows
