-- The index remains correct when the table changes.
use Rattle.links_drains.proofs.Common.{◌≡◌, ◌≢◌, ℕ, Bool, true, false, cond, refl, sym, ◌∙◌, ap, subst, List, [], ◌∷◌, ◌++◌, length, take, ◌+◌, ◌-◌, ◌<◌, ◌≤◌, ◌⊎◌, inl, inr, arith, Some, slice_get, slice_set, ◌==◌, ◌&&◌, option_map_or, cases_eq, cases_lt, ne_eqb, and_left, length-set, length-take, slice_get_within, slice_get_past, Row, slice_get-set, slice_get-set_same, slice_get-push, slice_get-take_below, slice_get-take_above, updated_set, has_count, threshold_in, threshold_of, has_drain_flag, Chained, ChainContinues, HasRoom, Indexed, IndexedBut, Cleared, Unreached, Forgotten, has, passes_at, is_issued_row, is_open, is_barrier, is_under_way, eq-eqb, list_any, common_steps, list_any-append, never, threshold_at, drains, Index}
use Rattle.links_drains.proofs.{Chains.chained-none, Chains.chained-take, Chains.chained-updated, RowsKept.length-push, Units.any_set, Units.any_of_set, Units.any_of_push, Units.any_of_take, Units.any_of_none}
use Rattle.bit_sets.proofs.Bits.{has_past}

-- ---- Chains

chained_set : (rows : List Row) (r : ℕ) (before row : Row) → Chained rows → slice_get rows r ≡ Some before → row.unit ≡ before.unit → Chained (slice_set rows r row)
chained_set rows r before row c h same =
    let f : Row → Row = λ x. record row { unit = x.unit } in
    let e : f before ≡ row = ap (λ u. record row { unit = u }) (sym same) in
    subst Chained (updated_set f rows r before h ∙ ap (slice_set rows r) e) (chained-updated f rows r (λ x. refl) c)

-- A row of the longer list is an old one or the new one.
pub pushed : (rows : List Row) (row : Row) (q : ℕ) (x : Row) → slice_get (rows ++ row ∷ []) q ≡ Some x → (slice_get rows q ≡ Some x) ⊎ ((q ≡ length rows) × (row ≡ x))
pushed = grind (arith, slice_get-push)

unit_within : (rows : List Row) (row : Row) → Chained rows → ChainContinues rows row → row.unit ≤ length rows
unit_within = grind arith

-- All rows from the chain's first on belong to the chain.
of_last_unit : (rows : List Row) (row : Row) → Chained rows → ChainContinues rows row → (q : ℕ) (x : Row) → slice_get rows q ≡ Some x → row.unit ≤ q → x.unit ≡ row.unit
of_last_unit = grind (arith, slice_get_within)

pub chained_push : (rows : List Row) (row : Row) → Chained rows → ChainContinues rows row → Chained (rows ++ row ∷ [])
chained_push = grind (arith, pushed, unit_within, slice_get_within, of_last_unit)

-- ---- One row is written into the sets

pub tied : (test : Row → Bool) (rows : List Row) (r : ℕ) (x row : Row) (b : Bool) (old new : List ℕ) → x ≡ row → slice_get rows r ≡ Some row → b ≡ test x
    → ((q : ℕ) → q ≢ r → has old q ≡ passes_at test rows q) → ((q : ℕ) → has new q ≡ cond (q == r) b (has old q)) → (q : ℕ) → has new q ≡ passes_at test rows q
tied = grind arith

-- A request without a count has no threshold.
uncounted_in : (rows : List Row) (r : ℕ) → passes_at has_count rows r ≡ false → threshold_in rows r ≡ never
uncounted_in = grind arith

pub thresholds_written : (rows : List Row) (r unit : ℕ) (x row : Row) (index : Index) (new : List ℕ) → IndexedBut r unit rows index → x ≡ row → slice_get rows r ≡ Some row
    → ((q : ℕ) → threshold_at new q ≡ cond ((q == r) && has_count x) (threshold_of x) (threshold_at index.thresholds q)) → (q : ℕ) → threshold_at new q ≡ threshold_in rows q
thresholds_written = grind (arith, uncounted_in, cases_eq)

pub barriers_written : (rows : List Row) (r unit : ℕ) (b : Bool) (index : Index) (new : List ℕ) → IndexedBut r unit rows index → drains rows unit ≡ true → b ≡ is_under_way rows unit → ((u : ℕ) → has new u ≡ cond (u == unit) b (has index.barriers u)) → (u : ℕ) → has new u ≡ is_barrier rows u
barriers_written = grind arith

pub barriers_kept : (rows : List Row) (r unit : ℕ) (index : Index) → IndexedBut r unit rows index → drains rows unit ≡ false → (u : ℕ) → has index.barriers u ≡ is_barrier rows u
barriers_kept = grind (arith, cases_eq)

pub updated_index : (rows : List Row) (r unit : ℕ) (index : Index) (barriers issued thresholds : List ℕ) → IndexedBut r unit rows index
    → length barriers ≡ length index.barriers → length issued ≡ length index.issued → length thresholds ≡ length index.thresholds
    → ((q : ℕ) → has index.unfinished q ≡ passes_at is_open rows q) → ((q : ℕ) → has index.flagged q ≡ passes_at has_drain_flag rows q) → ((u : ℕ) → has barriers u ≡ is_barrier rows u)
    → ((q : ℕ) → has issued q ≡ passes_at is_issued_row rows q) → ((q : ℕ) → threshold_at thresholds q ≡ threshold_in rows q) → Indexed rows (record index { barriers = barriers; issued = issued; thresholds = thresholds })
updated_index = grind arith

-- ---- The table changes

both : (a b c d : Bool) → a ≡ b → c ≡ d → (a && c) ≡ (b && d)
both a b c d h k = cc

get_other : (rows : List Row) (r q : ℕ) (row : Row) → r < length rows → q ≢ r → slice_get (slice_set rows r row) q ≡ slice_get rows q
get_other rows r q row h other = slice_get-set rows r q row h ∙ ap (λ b. cond b (Some row) (slice_get rows q)) (ne_eqb r q (λ e. other (sym e)))

passes_set : (test : Row → Bool) (rows : List Row) (r : ℕ) (before row : Row) → slice_get rows r ≡ Some before → test row ≡ test before → (q : ℕ) → passes_at test (slice_set rows r row) q ≡ passes_at test rows q
passes_set = grind (arith, slice_get-set, slice_get_within, cases_eq)

pub flags_set : (rows : List Row) (index : Index) (r : ℕ) (before row : Row) → Indexed rows index → slice_get rows r ≡ Some before → has_drain_flag row ≡ has_drain_flag before → (q : ℕ) → has index.flagged q ≡ passes_at has_drain_flag (slice_set rows r row) q
flags_set rows index r before row i h same q = i.flagged q ∙ sym (passes_set has_drain_flag rows r before row h same q)

-- A row is replaced by one of the same chain.
pub indexed_set : (rows : List Row) (index : Index) (r : ℕ) (before row : Row) → Indexed rows index → slice_get rows r ≡ Some before → row.unit ≡ before.unit → has_count row ≡ has_count before → has_drain_flag row ≡ has_drain_flag before → IndexedBut r row.unit (slice_set rows r row) index
indexed_set rows index r before row i h same counts flags = record {
  chained = chained_set rows r before row i.chained h same;
  room = subst (λ n. HasRoom n index) (sym (length-set rows r row)) i.room;
  counted = λ q x g e. elim (cases_eq q r) [
    | inl at ↦
        let written : Some row ≡ Some x = sym (slice_get-set_same rows r row (slice_get_within rows r before h)) ∙ ap (slice_get (slice_set rows r row)) (sym at) ∙ g in
        let is : row ≡ x = cc in
        let n = i.counted r before h (sym counts ∙ ap has_count is ∙ e) in
        omega (arith, at, n)
    | inr other ↦ i.counted q x (sym (get_other rows r q row (slice_get_within rows r before h) other) ∙ g) e
  ];
  unfinished = λ q other. i.unfinished q ∙ ap (λ o. option_map_or is_open o false) (sym (get_other rows r q row (slice_get_within rows r before h) other));
  flagged = λ q other. i.flagged q ∙ ap (λ o. option_map_or has_drain_flag o false) (sym (get_other rows r q row (slice_get_within rows r before h) other));
  barriers = λ u other. i.barriers u ∙ both _ _ _ _ (sym (any_of_set has_drain_flag rows r u before row h same other)) (sym (any_of_set is_open rows r u before row h same other));
  undrained = λ none. i.barriers row.unit ∙ and_left _ _ (sym (any_set (λ (x : Row). (x.unit == row.unit) && has_drain_flag x) rows r before row h (both _ _ _ _ (ap (λ n. n == row.unit) same) flags)) ∙ none);
  issued = λ q other. i.issued q ∙ ap (λ o. option_map_or is_issued_row o false) (sym (get_other rows r q row (slice_get_within rows r before h) other));
  thresholds = λ q other. i.thresholds q ∙ ap (λ o. option_map_or threshold_of o never) (sym (get_other rows r q row (slice_get_within rows r before h) other));
  uncounted = λ none. i.thresholds r ∙ uncounted_in rows r (sym (passes_set has_count rows r before row h counts r) ∙ none);
}

-- A row is added at the end.
get_before : (rows : List Row) (row : Row) (q : ℕ) → q ≢ length rows → slice_get (rows ++ row ∷ []) q ≡ slice_get rows q
get_before rows row q other = slice_get-push rows q row ∙ ap (λ b. cond b (Some row) (slice_get rows q)) (ne_eqb (length rows) q (λ e. other (sym e)))

any_before : (test : Row → Bool) (rows : List Row) (row : Row) → list_any test (rows ++ row ∷ []) ≡ false → list_any test rows ≡ false
any_before = grind (arith, list_any-append)

pub indexed_push : (rows : List Row) (index : Index) (row : Row) → Indexed rows index → HasRoom (length rows + 1) index → (has_count row ≡ true → length rows < length index.thresholds) → ChainContinues rows row → IndexedBut (length rows) row.unit (rows ++ row ∷ []) index
indexed_push rows index row i room counts on = record {
  chained = chained_push rows row i.chained on;
  room = subst (λ n. HasRoom n index) (sym (length-push rows row)) room;
  counted = λ q x g e. counted_at q x e (pushed rows row q x g);
  unfinished = λ q other. i.unfinished q ∙ ap (λ o. option_map_or is_open o false) (sym (get_before rows row q other));
  flagged = λ q other. i.flagged q ∙ ap (λ o. option_map_or has_drain_flag o false) (sym (get_before rows row q other));
  barriers = λ u other. i.barriers u ∙ both _ _ _ _ (sym (any_of_push has_drain_flag rows u row other)) (sym (any_of_push is_open rows u row other));
  undrained = λ none. i.barriers row.unit ∙ and_left _ _ (any_before _ rows row none);
  issued = λ q other. i.issued q ∙ ap (λ o. option_map_or is_issued_row o false) (sym (get_before rows row q other));
  thresholds = λ q other. i.thresholds q ∙ ap (λ o. option_map_or threshold_of o never) (sym (get_before rows row q other));
  uncounted = λ none. i.thresholds (length rows) ∙ ap (λ o. option_map_or threshold_of o never) (slice_get_past rows (length rows) (omega arith));
}
  where
    counted_at : (q : ℕ) (x : Row) → has_count x ≡ true → (slice_get rows q ≡ Some x) ⊎ ((q ≡ length rows) × (row ≡ x)) → q < length index.thresholds
    counted_at q x e (inl k) = i.counted q x k e
    counted_at q x e (inr k) = let n = counts (ap has_count k.1 ∙ e) in let at = k.0 in omega (arith, at, n)

-- Rows are dropped from the end.

tie_dropped : (test : Row → Bool) (rows : List Row) (n : ℕ) (old new : List ℕ) → ((r : ℕ) → has old r ≡ passes_at test rows r) → Cleared n (length rows) old new → (r : ℕ) → has new r ≡ passes_at test (take n rows) r
tie_dropped = grind (arith, cases_lt, slice_get-take_below, slice_get_past, slice_get-take_above)

thresholds_dropped : (rows : List Row) (n : ℕ) (old new : List ℕ) → ((r : ℕ) → threshold_at old r ≡ threshold_in rows r) → Unreached n (length rows) old new → (r : ℕ) → threshold_at new r ≡ threshold_in (take n rows) r
thresholds_dropped = grind (arith, cases_lt, slice_get-take_below, slice_get_past, slice_get-take_above)

kept_row : (rows : List Row) (n r : ℕ) (x : Row) → slice_get (take n rows) r ≡ Some x → (r < n) × (slice_get rows r ≡ Some x)
kept_row = grind (arith, cases_lt, slice_get-take_below, slice_get-take_above)

-- A chain without rows blocks nothing.
no_barrier : (rows : List Row) (u : ℕ) → ((r : ℕ) (x : Row) → slice_get rows r ≡ Some x → x.unit ≢ u) → is_barrier rows u ≡ false
no_barrier rows u h = and_left _ _ (any_of_none has_drain_flag rows u h)

barrier_dropped : (rows : List Row) (n u : ℕ) (old new : List ℕ) → Chained rows → ((v : ℕ) → has old v ≡ is_barrier rows v) → Cleared n (length rows) old new
    → (u < n → (r : ℕ) (x : Row) → n ≤ r → slice_get rows r ≡ Some x → x.unit ≢ u) → has new u ≡ is_barrier (take n rows) u
barrier_dropped rows n u old new chained h c others = elim (cases_lt u n) [
  | inl less ↦ c.below u less ∙ h u ∙ both _ _ _ _ (sym (any_of_take has_drain_flag rows n u (others less))) (sym (any_of_take is_open rows n u (others less)))
  | inr past ↦ elim (cases_lt u (length rows)) [
    | inl inside ↦ c.inside u past inside ∙ sym (gone past)
    | inr out ↦ c.past u out ∙ h u ∙ no_barrier rows u (λ r x g e. absurd (let w = slice_get_within rows r x g in let b = chained.back r x g in omega (arith, w, b, e, out))) ∙ sym (gone past)
  ]
]
  where
    gone : n ≤ u → is_barrier (take n rows) u ≡ false
    gone past = no_barrier (take n rows) u (λ r x g e. absurd (let k = kept_row rows n r x g in let l = k.0 in let b = chained.back r x k.1 in omega (arith, l, b, e, past)))

pub indexed_none : (rows : List Row) (old new : Index) → Indexed rows old → Forgotten 0 (length rows) old new → Indexed [] new
indexed_none rows old new i f = record {
  chained = chained-none;
  room = record { unfinished = omega arith; flagged = omega arith; barriers = omega arith; issued = omega arith };
  counted = λ q x g e. absurd cc;
  unfinished = tie_dropped is_open rows 0 old.unfinished new.unfinished i.unfinished f.unfinished;
  flagged = tie_dropped has_drain_flag rows 0 old.flagged new.flagged i.flagged f.flagged;
  barriers = λ u. barrier_dropped rows 0 u old.barriers new.barriers i.chained i.barriers f.barriers (λ less. absurd (omega (arith, less)));
  issued = tie_dropped is_issued_row rows 0 old.issued new.issued i.issued f.issued;
  thresholds = thresholds_dropped rows 0 old.thresholds new.thresholds i.thresholds f.thresholds;
}

pub indexed_take : (rows : List Row) (old new : Index) (n : ℕ) (last : Row) → Indexed rows old → 0 < n → slice_get rows (n - 1) ≡ Some last → Forgotten n (length rows) old new
    → (barriers : List ℕ) → length barriers ≡ length new.barriers → ((u : ℕ) → has barriers u ≡ cond (u == last.unit) false (has new.barriers u)) → IndexedBut (n - 1) last.unit (take n rows) (record new { barriers = barriers })
indexed_take rows old new n last i some h f barriers len cleared = record {
  chained = chained-take rows n i.chained;
  room = let t = length-take n rows in let a = i.room.unfinished in let b = i.room.flagged in let d = i.room.barriers in let e = i.room.issued in let x = f.unfinished.len in let y = f.flagged.len in let z = f.barriers.len in let w = f.issued.len in
      record { unfinished = omega (arith, t, a, x); flagged = omega (arith, t, b, y); barriers = omega (arith, t, d, z, len); issued = omega (arith, t, e, w) };
  counted = λ q x g c. let k = kept_row rows n q x g in let l = i.counted q x k.1 c in let u = f.thresholds.len in omega (arith, l, u);
  unfinished = λ q other. tie_dropped is_open rows n old.unfinished new.unfinished i.unfinished f.unfinished q;
  flagged = λ q other. tie_dropped has_drain_flag rows n old.flagged new.flagged i.flagged f.flagged q;
  barriers = λ u other. cleared u ∙ ap (λ b. cond b false (has new.barriers u)) (ne_eqb u last.unit other) ∙ barrier_dropped rows n u old.barriers new.barriers i.chained i.barriers f.barriers
      (λ less r x past g e. other (sym e ∙ sym (i.chained.run (n - 1) r last x h g (omega (arith, past)) (omega (arith, e, less)))));
  undrained = λ none. cleared last.unit ∙ ap (λ b. cond b false (has new.barriers last.unit)) (eq-eqb last.unit last.unit refl);
  issued = λ q other. tie_dropped is_issued_row rows n old.issued new.issued i.issued f.issued q;
  thresholds = λ q other. thresholds_dropped rows n old.thresholds new.thresholds i.thresholds f.thresholds q;
  uncounted = λ none. thresholds_dropped rows n old.thresholds new.thresholds i.thresholds f.thresholds (n - 1) ∙ uncounted_in (take n rows) (n - 1) none;
}

-- An index with empty sets is that of an empty table.
pub indexed_empty : (index : Index) → index.unfinished ≡ [] → index.flagged ≡ [] → index.barriers ≡ [] → index.issued ≡ [] → index.thresholds ≡ [] → Indexed [] index
indexed_empty = grind (arith, has_past)

-- The rows after some were dropped from the end.
pub flags_left : (rows left : List Row) (old new : Index) (n k : ℕ) → Indexed rows old → length rows ≡ n → left ≡ take k rows → Forgotten k n old new → (q : ℕ) → has new.flagged q ≡ passes_at has_drain_flag left q
flags_left rows left old new n k i len is f =
    let g : Forgotten k (length rows) old new = rw len f in
    rw is (tie_dropped has_drain_flag rows k old.flagged new.flagged i.flagged g.flagged)

pub indexed_left : (rows left : List Row) (old new : Index) (n k : ℕ) (last : Row) → Indexed rows old → length rows ≡ n → left ≡ take k rows → k ≤ n → 0 < k → slice_get left (k - 1) ≡ Some last → Forgotten k n old new
    → (barriers : List ℕ) → length barriers ≡ length new.barriers → ((u : ℕ) → has barriers u ≡ cond (u == last.unit) false (has new.barriers u)) → IndexedBut (k - 1) last.unit left (record new { barriers = barriers })
indexed_left rows left old new n k last i len is within some there f barriers size cleared =
    let g : Forgotten k (length rows) old new = rw len f in
    let h : slice_get rows (k - 1) ≡ Some last = (kept_row rows k (k - 1) last (ap (λ (rs : List Row). slice_get rs (k - 1)) (sym is) ∙ there)).1 in
    rw is (indexed_take rows old new k last i some h g barriers size cleared)

pub indexed_none_left : (rows left : List Row) (old new : Index) (n : ℕ) → Indexed rows old → length rows ≡ n → length left ≡ 0 → Forgotten 0 n old new → Indexed left new
indexed_none_left = grind (arith, common_steps, indexed_none)
