-- Finding matches, one by one.
use Rattle.timeouts_cancel.proofs.Common.{◌≡◌, ℕ, Bool, false, not, cond, sym, ◌∙◌, ap, List, [], ◌∷◌, ◌++◌, take, ◌+◌, arith, filter, enumerate_from, and_left, length-append, map-append, Row, is_match, is_waiting_match, matches_of, found_by, found_first, waiting_by, IsNextMatch, NoMatchFrom, Passed, take_more, Key}
use Rattle.std.{specs.Prelude.Some, specs.Prelude.map, specs.Prelude.option_map, specs.Prelude.slice_get, specs.Prelude.length, specs.Prelude.◌&&◌, proofs.lemmas.List.Elements.filter-append}
use Rattle.model_files.specs.Worlds.{WorldState}
use Rattle.opcodes.specs.Outcomes.{is_running}
use Rattle.links_drains.{specs.Units.IsNextIssued, proofs.Chains.enumerated, proofs.Filters.filter_skip, proofs.Filters.first_numbered, proofs.Filters.none_numbered, proofs.RestOfUnit.none_after, proofs.RestOfUnit.numbered}
use Rattle.timeouts_cancel.specs.declared.matching.Found.TheVariants.{Absent}

-- The tests of a numbered row.
abbrev matches : Key → ℕ → ℕ × Row → Bool
matches key me p = is_match key me p.0 p.1

abbrev waits_in : WorldState → Key → ℕ → ℕ × Row → Bool
waits_in w key me p = is_waiting_match w key me p.0 p.1

-- ---- From one issued request to the next

pub passed_none : (rows : List Row) (key : Key) (me from : ℕ) → Passed rows key me from from
passed_none rows key me from = record { after = omega arith; none = λ i x low high g. absurd (omega (arith, low, high)) }

-- The next issued request doesn't match.
pub passed_on : (rows : List Row) (key : Key) (me from at r : ℕ) (row : Row) → Passed rows key me from at → IsNextIssued rows at r → slice_get rows r ≡ Some row → matches key me (r, row) ≡ false → Passed rows key me from (r + 1)
passed_on = grind arith

-- ---- The first match

pub found_next : (rows : List Row) (w : WorldState) (key : Key) (me r : ℕ) (row : Row) → IsNextMatch rows key me 0 r row → found_first w (Some (r, row)) ≡ found_by rows w key me
found_next rows w key me r row m = ap (found_first w) (sym (first_numbered (matches key me) rows r row m.there m.matching (λ i x l g. m.least i x (omega arith) l g)))

pub found_none : (rows : List Row) (w : WorldState) (key : Key) (me : ℕ) → NoMatchFrom rows key me 0 → Absent ≡ found_by rows w key me
found_none rows w key me none = ap (λ (ps : List (ℕ × Row)). found_first w (slice_get ps 0)) (sym (none_numbered (matches key me) rows (λ i x g. none i x (omega arith) g)))

-- ---- The matches among the first rows

abbrev pub matches_to : List Row → Key → ℕ → ℕ → List (ℕ × Row)
matches_to rows key me k = filter (matches key me) (take k (enumerate_from 0 rows))

pub count_more : (rows : List Row) (key : Key) (me from r n : ℕ) (row : Row) → IsNextMatch rows key me from r row → n ≡ length (matches_to rows key me from) → n + 1 ≡ length (matches_to rows key me (r + 1))
count_more rows key me from r n row m e =
    ap (λ k. k + 1) e ∙ sym (length-append (matches_to rows key me from) ((r, row) ∷ []))
    ∙ ap (λ ps. length (ps ++ (r, row) ∷ [])) (sym (filter_skip (matches key me) from r (enumerate_from 0 rows) m.after (λ i p low high g. numbered (matches key me) rows i p (λ x h. m.least i x low high h) g)))
    ∙ ap (λ b. length (matches_to rows key me r ++ cond b ((r, row) ∷ []) [])) (sym m.matching)
    ∙ ap length (sym (filter-append (matches key me) (take r (enumerate_from 0 rows)) ((r, row) ∷ [])))
    ∙ ap (λ ps. length (filter (matches key me) ps)) (sym (take_more (enumerate_from 0 rows) r (r, row) (enumerated rows r ∙ ap (option_map (λ (y : Row). (r, y))) m.there)))

pub count_past : (rows : List Row) (key : Key) (me from n : ℕ) → NoMatchFrom rows key me from → n ≡ length (matches_to rows key me from) → n ≡ length (matches_of rows key me)
count_past rows key me from n none e = e ∙ ap length (none_after (matches key me) from (enumerate_from 0 rows) (λ i p low g. numbered (matches key me) rows i p (λ x h. none i x low h) g))

-- ---- The matches among the first rows that wait

abbrev pub waiting_to : List Row → WorldState → Key → ℕ → ℕ → List ℕ
waiting_to rows w key me k = map (λ (p : ℕ × Row). p.0) (filter (waits_in w key me) (take k (enumerate_from 0 rows)))

-- A row that doesn't match isn't one of them.
not_waiting : (w : WorldState) (key : Key) (me : ℕ) (p : ℕ × Row) → matches key me p ≡ false → waits_in w key me p ≡ false
not_waiting w key me p fails = and_left _ _ fails

abbrev number : ℕ × Row → ℕ
number p = p.0

pub waiting_on : (rows : List Row) (w : WorldState) (key : Key) (me from r : ℕ) (row : Row) (b : Bool) → IsNextMatch rows key me from r row → is_running w row ≡ b → waiting_to rows w key me (r + 1) ≡ waiting_to rows w key me from ++ cond b [] (r ∷ [])
waiting_on rows w key me from r row b m e =
    ap (λ xs. map number (filter (waits_in w key me) xs)) (take_more (enumerate_from 0 rows) r (r, row) (enumerated rows r ∙ ap (option_map (λ (y : Row). (r, y))) m.there))
    ∙ ap (map number) (filter-append (waits_in w key me) (take r (enumerate_from 0 rows)) ((r, row) ∷ []))
    ∙ map-append number (filter (waits_in w key me) (take r (enumerate_from 0 rows))) (cond (waits_in w key me (r, row)) ((r, row) ∷ []) [])
    ∙ ap (λ xs. map number xs ++ map number (cond (waits_in w key me (r, row)) ((r, row) ∷ []) [])) (filter_skip (waits_in w key me) from r (enumerate_from 0 rows) m.after (λ i p low high g. numbered (waits_in w key me) rows i p (λ x h. not_waiting w key me (i, x) (m.least i x low high h)) g))
    ∙ ap (λ c. waiting_to rows w key me from ++ map number (cond c ((r, row) ∷ []) [])) (ap (λ c. c && not (is_running w row)) m.matching ∙ ap not e)
    ∙ ap (λ xs. waiting_to rows w key me from ++ xs) (by b)
  where
    by : (b : Bool) → map number (cond (not b) ((r, row) ∷ []) []) ≡ cond b [] (r ∷ [])
    by = grind arith

pub waiting_past : (rows : List Row) (w : WorldState) (key : Key) (me from : ℕ) → NoMatchFrom rows key me from → waiting_to rows w key me from ≡ waiting_by rows w key me
waiting_past rows w key me from none = ap (map (λ (p : ℕ × Row). p.0)) (none_after (waits_in w key me) from (enumerate_from 0 rows) (λ i p low g. numbered (waits_in w key me) rows i p (λ x h. not_waiting w key me (i, x) (none i x low h)) g))
