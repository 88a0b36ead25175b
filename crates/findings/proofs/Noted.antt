-- The circumstances that the search notes for a completed request are those of the event.
use Rattle.findings.proofs.Common.{or_parts, ◌≡◌, ◌⊎◌, ℕ, ◌+◌, ◌<◌, ◌≤◌, Bool, true, false, cond, List, [], ◌∷◌, ◌++◌, refl, ℤ, Option, Some, None, Result, Ok, Err, OnOk, option_map, slice_get, nat_lt, ◌==◌, ◌&&◌, ◌||◌, not, option_map_or, list_any, flat_map, enumerate_from, Row, Place, Request, Value, Change, Exact, NamesOnce, is_guard, Chained, Event, Setup, Machine, view, is_transfer, Finding, Kind, Ended, EndedKind, Short, Severed, Canceled, TimedOut, ended_kinds, Completed, Before, Member, inl, inr, sym, ap, ◌∙◌, subst, arith, and_parts, and_from, and_left, and_right, or_cases, false_from_ne_true, true_from_ne_false, cases_lt, ltb-true, eqb-true, eq-eqb, list_any-append, enumerated, numbered, any_true, any_false, clash, not-true, slice_get_none, Circumstances, ending_of, ended_test, is_error, is_less, is_of, is_verdict, next_in, severs, given, is_short_of_end, is_severing, cancels, is_later, member_of, any_passes, severs_others, is_severed, is_expiry_of, expires_over, expires_over_ready, has_canceled_target, circumstances, row_in, of_group, of_queued, of_place, of_change, of_row, member_if, members_at, members_of, continues, severs_chain, cancels_at, severing_in, canceled_in, depends_on_others, IsListed, is_severed_in, noted, noted_by, facts_before}
use Rattle.findings.proofs.{Groups.the_finding, Notes.AreTrue, Notes.true_notes, Shown.NeedsChange, Shown.not_completed, Shown.passes_named, Shown.row_in_requested}
use Rattle.finding_rules.proofs.{Draining.none_past, Members.Has, Members.any_alike, Members.any_has, Members.has_flat_map}

-- ---- the requests that an event completes

if_passes : (fits : Member → Bool) (b : Bool) (r : ℕ) (row : Row) → list_any fits (member_if b r row) ≡ true → (b ≡ true) × (fits (member_of r row) ≡ true)
if_passes fits true r row h = (refl, both (or_cases (fits (member_of r row)) false h))
  where
    both : (fits (member_of r row) ≡ true) ⊎ (false ≡ true) → fits (member_of r row) ≡ true
    both (inl e) = e
    both (inr e) = absurd (clash e)
if_passes fits false r row h = absurd (clash h)

member_there : (b : Bool) (r : ℕ) (row : Row) → b ≡ true → Has (member_if b r row) (member_of r row)
member_there true r row e = inl refl
member_there false r row e = absurd (clash e)

-- Both tests of a numbered request.
abbrev both_pass : (Option Row → Row → Bool) → (Member → Bool) → List Row → ℕ × Row → Bool
both_pass test fits was p = test (slice_get was p.0) p.1 && fits (member_of p.0 p.1)

-- The search records only requests that pass the test.
abbrev OnlyIf : (ℕ → Option Row → Row → Bool) → (Option Row → Row → Bool) → Type 0
OnlyIf kept test = (r : ℕ) (old : Option Row) (row : Row) → kept r old row ≡ true → test old row ≡ true

-- It records all of them that matter: those that pass the second test, too.
abbrev AllOf : (ℕ → Option Row → Row → Bool) → (Option Row → Row → Bool) → (Member → Bool) → List Row → Type 0
AllOf kept test fits rows = (r : ℕ) (old : Option Row) (row : Row) → slice_get rows r ≡ Some row → test old row ≡ true → fits (member_of r row) ≡ true → kept r old row ≡ true

module _ (before next_state : Machine) (kept : ℕ → Option Row → Row → Bool) (test : Option Row → Row → Bool) (fits : Member → Bool) where
  passes_here : (r : ℕ) (row : Row) → slice_get next_state.table r ≡ Some row → test (slice_get before.table r) row ≡ true → fits (member_of r row) ≡ true → any_passes test fits before.table next_state.table ≡ true
  passes_here r row k t f =
      any_true (both_pass test fits before.table) (enumerate_from 0 next_state.table) r (r, row) (enumerated next_state.table r ∙ ap (option_map (λ (x : Row). (r, x))) k) (and_from (test (slice_get before.table r) row) (fits (member_of r row)) t f)

  place_passes : OnlyIf kept test → (x : Option Value) (p : Place) → x ≡ view before p → list_any fits (members_at kept next_state.table x p) ≡ true → any_passes test fits before.table next_state.table ≡ true
  place_passes only x (Request r) h t = by (slice_get next_state.table r) refl t
    where
      old : row_in x ≡ slice_get before.table r
      old = ap row_in h ∙ row_in_requested (slice_get before.table r)

      by : (o : Option Row) → slice_get next_state.table r ≡ o → list_any fits (option_map_or (λ (row : Row). member_if (kept r (row_in x) row) r row) o []) ≡ true → any_passes test fits before.table next_state.table ≡ true
      by None k u = absurd (clash u)
      by (Some row) k u =
          let parts = if_passes fits (kept r (row_in x) row) r row u in
          passes_here r row k (ap (λ (o : Option Row). test o row) (sym old) ∙ only r (row_in x) row parts.0) parts.1
  place_passes only x _ h t = absurd (clash t)

  changes_pass : OnlyIf kept test → (cs : List Change) → AreTrue (view before) cs → list_any fits (flat_map (members_of kept next_state.table) cs) ≡ true → any_passes test fits before.table next_state.table ≡ true
  changes_pass only [] h t = absurd (clash t)
  changes_pass only (c ∷ cs) h t =
      elim (or_cases (list_any fits (members_of kept next_state.table c)) (list_any fits (flat_map (members_of kept next_state.table) cs)) (sym (list_any-append fits (members_of kept next_state.table c) (flat_map (members_of kept next_state.table) cs)) ∙ t)) [
        | inl u ↦ place_passes only c.old c.place h.0 u
        | inr u ↦ changes_pass only cs h.1 u
      ]

  row_passes : AllOf kept test fits next_state.table → (cs : List Change) (r : ℕ) (row : Row) → NeedsChange test → Exact (view before) (view next_state) cs → slice_get next_state.table r ≡ Some row → test (slice_get before.table r) row ≡ true → fits (member_of r row) ≡ true
      → list_any fits (flat_map (members_of kept next_state.table) cs) ≡ true
  row_passes all cs r row needs x k t f =
      any_has fits (flat_map (members_of kept next_state.table) cs) (member_of r row)
      (has_flat_map (members_of kept next_state.table) cs (record { place = Request r; old = view before (Request r) }) (member_of r row) (passes_named before next_state cs r row test needs x k t) placed) f
    where
      old : row_in (view before (Request r)) ≡ slice_get before.table r
      old = row_in_requested (slice_get before.table r)

      placed : Has (members_at kept next_state.table (view before (Request r)) (Request r)) (member_of r row)
      placed = subst (λ (o : Option Row). Has (option_map_or (λ (y : Row). member_if (kept r (row_in (view before (Request r))) y) r y) o []) (member_of r row)) (sym k) (member_there (kept r (row_in (view before (Request r))) row) r row (all r (row_in (view before (Request r))) row k (ap (λ (o : Option Row). test o row) old ∙ t) f))

  -- Some request that the record names passes exactly if some request passes.
  pub members_pass : OnlyIf kept test → AllOf kept test fits next_state.table → (cs : List Change) → NeedsChange test → Exact (view before) (view next_state) cs → NamesOnce cs → list_any fits (flat_map (members_of kept next_state.table) cs) ≡ any_passes test fits before.table next_state.table
  members_pass only all cs needs x once = by (list_any fits (flat_map (members_of kept next_state.table) cs)) refl
    where
      by : (b : Bool) → list_any fits (flat_map (members_of kept next_state.table) cs) ≡ b → b ≡ any_passes test fits before.table next_state.table
      by true e = sym (changes_pass only cs (true_notes (view before) (view next_state) cs x once) e)
      by false e = sym (any_false (both_pass test fits before.table) (enumerate_from 0 next_state.table) (λ i p there.
          numbered (both_pass test fits before.table) next_state.table i p (λ row k. false_from_ne_true (both_pass test fits before.table (i, row)) (λ t.
          let parts = and_parts (test (slice_get before.table i) row) (fits (member_of i row)) t in
          clash (sym e ∙ row_passes all cs i row needs x k parts.0 parts.1))) there))

severing_changes : NeedsChange is_severing
severing_changes row = not_completed row (severs (Some row) row)

canceled_changes : NeedsChange cancels
canceled_changes row = and_right (not (is_guard row)) _ (not_completed row (is_error 125))

-- ---- circumstances

abbrev circumstances_from : Bool → Bool → Bool → Bool → Circumstances
circumstances_from a b c d = record { short_of_end = a; severs_others = b; is_named = c; was_ready = d }

-- ---- chains

-- The chain of a request with a later one, other than a linked timeout, continues.
later_continues : (rows : List Row) (r q : ℕ) (row x : Row) → Chained rows → slice_get rows r ≡ Some row → slice_get rows q ≡ Some x → r < q → x.unit ≡ row.unit → is_guard x ≡ false → continues rows r row ≡ true
later_continues rows r q row x chained there k l same other = by (option_map_or is_guard (slice_get rows (r + 1)) false) refl
  where
    at : (n : ℕ) → r ≤ n → n ≤ q → (o : Option Row) → slice_get rows n ≡ o → option_map_or (λ (y : Row). y.unit == row.unit) o false ≡ true
    at n low up None e = absurd (none_past rows n q x (slice_get_none rows n e) up k)
    at n low up (Some y) e =
        let first : row.unit ≤ r = chained.back r row there in
        eq-eqb y.unit row.unit (chained.run n q y x e k up (omega (arith, first, same, low)) ∙ same)

    by : (b : Bool) → option_map_or is_guard (slice_get rows (r + 1)) false ≡ b → option_map_or (λ (y : Row). y.unit == row.unit) (slice_get rows (r + cond b 2 1)) false ≡ true
    by false e = at (r + 1) (omega arith) (omega (arith, l)) (slice_get rows (r + 1)) refl
    by true e =
        elim (cases_lt (r + 1) q) [
          | inl past ↦ at (r + 2) (omega arith) (omega (arith, past)) (slice_get rows (r + 2)) refl
          | inr up ↦
              let next : r + 1 ≡ q = omega (arith, l, up) in
              absurd (clash (sym (ap (λ (o : Option Row). option_map_or is_guard o false) (ap (slice_get rows) next ∙ k) ∙ other) ∙ e))
        ]

-- Whether request z severed x's chain before x.
abbrev severs_earlier : List Row → List Row → Member → Member → Bool
severs_earlier was rows x z = is_later z x && severs_others was rows z

module _ (before next_state : Machine) (cs : List Change) (x : Exact (view before) (view next_state) cs) (once : NamesOnce cs) (chained : Chained next_state.table) where
  others_severed : (y : Member) → list_any (is_later y) (canceled_in next_state cs) ≡ severs_others before.table next_state.table y
  others_severed y = members_pass before next_state cancels_at cancels (is_later y) (λ r old row t. t) (λ r old row k t f. t) cs canceled_changes x once

  -- A request that severs others has a later one in its chain.
  others_continue : (r : ℕ) (row : Row) → slice_get next_state.table r ≡ Some row → continues next_state.table r row ≡ false → severs_others before.table next_state.table (member_of r row) ≡ false
  others_continue r row k e =
      any_false (both_pass cancels (is_later (member_of r row)) before.table) (enumerate_from 0 next_state.table) (λ i p there.
      numbered (both_pass cancels (is_later (member_of r row)) before.table) next_state.table i p (λ y h. false_from_ne_true (both_pass cancels (is_later (member_of r row)) before.table (i, y)) (λ t.
      let parts = and_parts (cancels (slice_get before.table i) y) (is_later (member_of r row) (member_of i y)) t in
      let later = and_parts (nat_lt r i) (y.unit == row.unit) parts.1 in
      let other = and_parts (not (is_guard y)) (option_map_or (is_error 125) (ending_of (slice_get before.table i) y) false) parts.0 in
      clash (sym e ∙ later_continues next_state.table r i row y chained k h (ltb-true r i later.0) (eqb-true y.unit row.unit later.1) (not-true (is_guard y) other.0)))) there)

  continues_on : (r : ℕ) (row : Row) → slice_get next_state.table r ≡ Some row → severs_others before.table next_state.table (member_of r row) ≡ true → continues next_state.table r row ≡ true
  continues_on r row k t = true_from_ne_false (continues next_state.table r row) (λ e. clash (sym (others_continue r row k e) ∙ t))

  was_severed : (y : Member) → is_severed_in (severing_in next_state cs) (canceled_in next_state cs) y ≡ is_severed before.table next_state.table y
  was_severed y =
      any_alike (λ (z : Member). is_later z y && list_any (is_later z) (canceled_in next_state cs)) (λ (z : Member). is_later z y && severs_others before.table next_state.table z)
      (λ z. ap (λ (b : Bool). is_later z y && b) (others_severed z)) (severing_in next_state cs)
      ∙ members_pass before next_state (severs_chain next_state.table) is_severing (λ (z : Member). is_later z y && severs_others before.table next_state.table z)
      (λ r old row t. (and_parts (continues next_state.table r row) (is_severing old row) t).1)
      (λ r old row k t f. and_from (continues next_state.table r row) (is_severing old row) (continues_on r row k (and_parts (is_later (member_of r row) y) (severs_others before.table next_state.table (member_of r row)) f).1) t)
      cs severing_changes x once

  -- A request that severs others isn't the last of its chain, so that testing this changes nothing.
  others_noted : (r : ℕ) (row : Row) → slice_get next_state.table r ≡ Some row → (continues next_state.table r row && list_any (is_later (member_of r row)) (canceled_in next_state cs)) ≡ severs_others before.table next_state.table (member_of r row)
  others_noted r row k = ap (λ (b : Bool). continues next_state.table r row && b) (others_severed (member_of r row)) ∙ by (continues next_state.table r row) refl
    where
      by : (b : Bool) → continues next_state.table r row ≡ b → (b && severs_others before.table next_state.table (member_of r row)) ≡ severs_others before.table next_state.table (member_of r row)
      by true e = refl
      by false e = sym (others_continue r row k e)

  -- The first request of a chain is not severed.
  first_unsevered : (r : ℕ) (row : Row) → row.unit ≡ r → is_severed before.table next_state.table (member_of r row) ≡ false
  first_unsevered r row first =
      any_false (both_pass is_severing (severs_earlier before.table next_state.table (member_of r row)) before.table) (enumerate_from 0 next_state.table) (λ i p there.
      numbered (both_pass is_severing (severs_earlier before.table next_state.table (member_of r row)) before.table) next_state.table i p (λ y h. and_right (is_severing (slice_get before.table i) y) (severs_earlier before.table next_state.table (member_of r row) (member_of i y)) (and_left (is_later (member_of i y) (member_of r row)) _ (false_from_ne_true (is_later (member_of i y) (member_of r row)) (λ t.
      let later = and_parts (nat_lt i r) (row.unit == y.unit) t in
      let below : i < r = ltb-true i r later.0 in
      let same : row.unit ≡ y.unit = eqb-true row.unit y.unit later.1 in
      let low : y.unit ≤ i = chained.back i y h in
      absurd (omega (arith, below, same, low, first)))))) there)

  severed_noted : (r : ℕ) (row : Row) → (not (row.unit == r) && is_severed_in (severing_in next_state cs) (canceled_in next_state cs) (member_of r row)) ≡ is_severed before.table next_state.table (member_of r row)
  severed_noted r row = ap (λ (b : Bool). not (row.unit == r) && b) (was_severed (member_of r row)) ∙ by (row.unit == r) refl
    where
      by : (b : Bool) → (row.unit == r) ≡ b → (not b && is_severed before.table next_state.table (member_of r row)) ≡ is_severed before.table next_state.table (member_of r row)
      by true e = sym (first_unsevered r row (eqb-true row.unit r e))
      by false e = refl

-- What is noted of an event is its circumstances.
pub noted_circumstances : (s : Setup) (before : Machine) (e : Event) (next_state : Machine) (cs : List Change) (r : ℕ) (row : Row) → Exact (view before) (view next_state) cs → NamesOnce cs → Chained next_state.table → slice_get next_state.table r ≡ Some row
    → noted_by s cs (facts_before s before e) e next_state r row ≡ circumstances s before e next_state r row
noted_circumstances s before e next_state cs r row x once chained k =
    let ready = is_expiry_of r e && (expires_over_ready before e && has_canceled_target next_state.table row) in
    let over = expires_over next_state.table e r in
    let named = (not (row.unit == r) && is_severed_in (severing_in next_state cs) (canceled_in next_state cs) (member_of r row)) || over in
    ap (λ (b : Bool). circumstances_from (is_short_of_end s next_state row) b named ready) (others_noted before next_state cs x once chained r row k)
    ∙ ap (λ (b : Bool). circumstances_from (is_short_of_end s next_state row) (severs_others before.table next_state.table (member_of r row)) (b || over) ready) (severed_noted before next_state cs x once chained r row)

-- ---- lists that aren't needed

-- Equal tests give equal findings.
group_alike : {K : Type 0} (whole : K → Kind) (f g : K → Bool) (i n : ℕ) → ((kind : K) → f kind ≡ g kind) → (kinds : List K) → of_group whole f i n kinds ≡ of_group whole g i n kinds
group_alike whole f g i n h [] = refl
group_alike whole f g i n h (kind ∷ kinds) =
    ap (λ (b : Bool). given b (the_finding i (whole kind) n) ++ of_group whole f i n kinds) (h kind) ∙ ap (λ (fs : List Finding). given (g kind) (the_finding i (whole kind) n) ++ fs) (group_alike whole f g i n h kinds)

-- Of a request that wasn't canceled and severs no chain, the findings don't depend on others.
module _ (c d : Circumstances) (short : c.short_of_end ≡ d.short_of_end) (ready : c.was_ready ≡ d.was_ready) (before : Option Row) (rows : List Row) (r : ℕ) (row : Row) where
  test_alike : (o : Option ℤ) → option_map_or (λ (res : ℤ). is_error 125 res || severs before row res) o false ≡ false → (kind : EndedKind) → option_map_or (is_of kind c before row (next_in rows r)) o false ≡ option_map_or (is_of kind d before row (next_in rows r)) o false
  test_alike None h kind = refl
  test_alike (Some res) h (Short verdict) = ap (λ (b : Bool). (is_transfer row.entry.opcode && is_less res row.entry.len) && is_verdict verdict b) short
  test_alike (Some res) h Severed =
      let none = (or_parts (is_error 125 res) (severs before row res) h).1 in
      ap (λ (b : Bool). b && c.severs_others) none ∙ sym (ap (λ (b : Bool). b && d.severs_others) none)
  test_alike (Some res) h Canceled =
      let none = (or_parts (is_error 125 res) (severs before row res) h).0 in
      ap (λ (b : Bool). b && not c.is_named) none ∙ sym (ap (λ (b : Bool). b && not d.is_named) none)
  test_alike (Some res) h (TimedOut verdict) = ap (λ (b : Bool). (is_guard row && is_error 62 res) && is_verdict verdict b) ready
  test_alike (Some res) h kind = refl

  row_alike : (i : ℕ) → depends_on_others before row ≡ false → of_row i c before rows r row ≡ of_row i d before rows r row
  row_alike i h =
      ap (λ (fs : List Finding). fs ++ of_queued i before rows r row)
      (group_alike Ended (λ (kind : EndedKind). ended_test kind c before rows r row) (λ (kind : EndedKind). ended_test kind d before rows r row) i r (test_alike (ending_of before row) h) ended_kinds)

-- The findings about a request, if its lists are prepared.
prepared : (s : Setup) (past : List Change) (b : Before) (e : Event) (m : Machine) (lists : Completed) (i : ℕ) (before : Option Row) (r : ℕ) (row : Row) → IsListed m past lists → (depends_on_others before row ≡ true → lists.is_known ≡ true)
    → of_row i (noted s lists.severing.items lists.canceled.items b e m r row) before m.table r row ≡ of_row i (noted_by s past b e m r row) before m.table r row
prepared s past b e m lists i before r row listed needed = by (depends_on_others before row) refl
  where
    by : (t : Bool) → depends_on_others before row ≡ t → of_row i (noted s lists.severing.items lists.canceled.items b e m r row) before m.table r row ≡ of_row i (noted_by s past b e m r row) before m.table r row
    by true h =
        let same = listed (needed h) in
        ap (λ (ms : List Member). of_row i (noted s ms lists.canceled.items b e m r row) before m.table r row) same.0
        ∙ ap (λ (ms : List Member). of_row i (noted s (severing_in m past) ms b e m r row) before m.table r row) same.1
    by false h = row_alike (noted s lists.severing.items lists.canceled.items b e m r row) (noted_by s past b e m r row) refl refl before m.table r row i h

-- The findings about a place that is a request.
pub row_added : {V E : Type 0} (result : Result V E) (s : Setup) (past : List Change) (b : Before) (e : Event) (m : Machine) (lists : Completed) (i : ℕ) (old : Option Value) (before : Option Row) (r : ℕ) (row : Row) (fs gs : List Finding)
    → IsListed m past lists → (depends_on_others before row ≡ true → lists.is_known ≡ true) → before ≡ row_in old → Some row ≡ slice_get m.table r
    → OnOk result (gs ≡ fs ++ of_row i (noted s lists.severing.items lists.canceled.items b e m r row) before m.table r row) → OnOk result (gs ≡ fs ++ of_place i (noted_by s past b e m) m.table old (Request r))
row_added (Ok x) s past b e m lists i old before r row fs gs listed needed same there added =
    added ∙ ap (λ (hs : List Finding). fs ++ hs) (prepared s past b e m lists i before r row listed needed
    ∙ ap (λ (o : Option Row). of_row i (noted_by s past b e m r row) o m.table r row) same
    ∙ ap (λ (o : Option Row). option_map_or (λ (y : Row). of_row i (noted_by s past b e m r y) (row_in old) m.table r y) o []) there)
row_added (Err x) s past b e m lists i old before r row fs gs listed needed same there added = tt

-- ---- findings

-- Equal circumstances give equal findings.
abbrev pub Agree : List Row → (ℕ → Row → Circumstances) → (ℕ → Row → Circumstances) → Type 0
Agree rows f g = (r : ℕ) (row : Row) → slice_get rows r ≡ Some row → f r row ≡ g r row

place_alike : (i : ℕ) (f g : ℕ → Row → Circumstances) (rows : List Row) → Agree rows f g → (x : Option Value) (p : Place) → of_place i f rows x p ≡ of_place i g rows x p
place_alike i f g rows h x (Request r) = by (slice_get rows r) refl
  where
    by : (o : Option Row) → slice_get rows r ≡ o → option_map_or (λ (row : Row). of_row i (f r row) (row_in x) rows r row) o [] ≡ option_map_or (λ (row : Row). of_row i (g r row) (row_in x) rows r row) o []
    by None e = refl
    by (Some row) e = ap (λ (c : Circumstances). of_row i c (row_in x) rows r row) (h r row e)
place_alike i f g rows h x _ = refl

pub changes_alike : (i : ℕ) (f g : ℕ → Row → Circumstances) (rows : List Row) → Agree rows f g → (cs : List Change) → flat_map (of_change i f rows) cs ≡ flat_map (of_change i g rows) cs
changes_alike i f g rows h [] = refl
changes_alike i f g rows h (c ∷ cs) =
    ap (λ (fs : List Finding). fs ++ flat_map (of_change i f rows) cs) (place_alike i f g rows h c.old c.place) ∙ ap (λ (fs : List Finding). of_change i g rows c ++ fs) (changes_alike i f g rows h cs)
