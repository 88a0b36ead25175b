-- Whether a request may be issued, decided from the smallest numbers in the index's sets.
use Rattle.links_drains.proofs.Common.{◌≡◌, ℕ, ◌<◌, ◌≤◌, Bool, true, false, not, refl, sym, ◌∙◌, ap, List, ◌⊎◌, inl, inr, arith, Option, Some, None, option_map, slice_get, ◌&&◌, ◌||◌, MatchBool, list_any, enumerate_from, cases_eq, cases_lt, cases_Bool, eq-eqb, eqb-true, ltb-true, lt-ltb, both_ways, and_from, and_parts, or_from, or_cases, or_left, or_right, Queued, Issued, Ended, Row, Indexed, is_guard, is_queued, is_unfinished, has, IsNext, is_open, is_under_way, Phase, drains, waits_for, is_eligible, GuardsFollow, Index}
use Rattle.links_drains.proofs.{Chains.enumerated, Units.any_true, Units.any_false, Units.any_of_true, Units.any_of_found, Units.passes_here}

-- ---- Some numbered item passes

any_numbered : {X : Type 0} (test : ℕ × X → Bool) (xs : List X) (i : ℕ) (x : X) → slice_get xs i ≡ Some x → test (i, x) ≡ true → list_any test (enumerate_from 0 xs) ≡ true
any_numbered {X} test xs i x h t = any_true test (enumerate_from 0 xs) i (i, x) (enumerated xs i ∙ ap (option_map (λ (y : X). (i, y))) h) t

none_numbered : {X : Type 0} (test : ℕ × X → Bool) (xs : List X) → ((i : ℕ) (x : X) → slice_get xs i ≡ Some x → test (i, x) ≡ false) → list_any test (enumerate_from 0 xs) ≡ false
none_numbered {X} test xs h = any_false test (enumerate_from 0 xs) (λ i p e. by i p (slice_get xs i) refl (sym (enumerated xs i) ∙ e))
  where
    by : (i : ℕ) (p : ℕ × X) (o : Option X) → slice_get xs i ≡ o → option_map (λ (y : X). (i, y)) o ≡ Some p → test p ≡ false
    by i p None e k = absurd cc
    by i p (Some x) e k = let same : (i, x) ≡ p = cc in ap test (sym same) ∙ h i x e

-- ---- The conditions under which a request waits

never : (u a l g m d : Bool) → (u ≡ true → a ≡ true → l ≡ true → ⊥) → (u ≡ true → m ≡ true → d ≡ true → ⊥) → (u && ((a && (l && g)) || (m && d))) ≡ false
never false a l g m d h k = refl
never true a l g m d h k = or_from _ _ (three a l g (h refl)) (two m d (k refl))
  where
    two : (x y : Bool) → (x ≡ true → y ≡ true → ⊥) → (x && y) ≡ false
    two false y n = refl
    two true false n = refl
    two true true n = absurd (n refl refl)

    three : (x y z : Bool) → (x ≡ true → y ≡ true → ⊥) → (x && (y && z)) ≡ false
    three false y z n = refl
    three true false z n = refl
    three true true z n = absurd (n refl refl)

queued_open : (p : Phase) → is_queued p ≡ true → is_unfinished p ≡ true
queued_open Queued h = refl
queued_open Issued h = refl
queued_open (Ended res) h = absurd cc

second_false : (a b : Bool) → b ≡ true → (a && b) ≡ false → a ≡ false
second_false false b h k = refl
second_false true b h k = absurd cc

-- ---- A queued request that is not a linked timeout

module _ (rows : List Row) (index : Index) (i : Indexed rows index) (guards : GuardsFollow rows)
    (r : ℕ) (row : Row) (here : slice_get rows r ≡ Some row) (queued : is_queued row.phase ≡ true) (free : is_guard row ≡ false) where
  rises : (j k : ℕ) (y x : Row) → slice_get rows j ≡ Some y → slice_get rows k ≡ Some x → j ≤ k → y.unit ≤ x.unit
  rises j k y x g h l = elim (cases_lt j x.unit) [
    | inl low ↦ let b = i.chained.back j y g in omega (arith, b, low)
    | inr high ↦ let e = i.chained.run j k y x g h l high in omega (arith, e)
  ]

  -- A request that isn't in the set has completed.
  not_open : (k : ℕ) (x : Row) → slice_get rows k ≡ Some x → has index.unfinished k ≡ false → is_open x ≡ true → ⊥
  not_open k x h absent here = both_ways (is_open x) (sym (passes_here is_open rows k x h) ∙ sym (i.unfinished k) ∙ absent) here

  pub member : has index.unfinished r ≡ true
  member = i.unfinished r ∙ passes_here is_open rows r row here ∙ queued_open row.phase queued

  open_row : (k : ℕ) → has index.unfinished k ≡ true → (x : Row) × (slice_get rows k ≡ Some x) × (is_open x ≡ true)
  open_row k h = by (slice_get rows k) refl
    where
      by : (o : Option Row) → slice_get rows k ≡ o → (x : Row) × (slice_get rows k ≡ Some x) × (is_open x ≡ true)
      by None e = absurd (let f = sym h ∙ i.unfinished k in let g = rw e at f in cc)
      by (Some x) e = (x, e, sym (passes_here is_open rows k x e) ∙ sym (i.unfinished k) ∙ h)

  under_way : is_under_way rows row.unit ≡ true
  under_way = any_of_true is_open rows r row row.unit here refl (queued_open row.phase queued)

  drains_by : has index.barriers row.unit ≡ true → drains rows row.unit ≡ true
  drains_by h = (and_parts _ _ (sym (i.barriers row.unit) ∙ h)).0

  drains_not : has index.barriers row.unit ≡ false → drains rows row.unit ≡ false
  drains_not h = second_false _ _ under_way (sym (i.barriers row.unit) ∙ h)

  eligible_is : (b : Bool) → list_any (λ (p : ℕ × Row). waits_for rows r row p.0 p.1) (enumerate_from 0 rows) ≡ b → not b ≡ is_eligible rows r
  eligible_is b h = rw (here, queued, free, h) refl

  -- It waits for no request if no earlier one of its chain is unfinished and no earlier chain
  -- blocks it.
  waits_for_none : ((k : ℕ) (x : Row) → slice_get rows k ≡ Some x → is_open x ≡ true → x.unit ≡ row.unit → k < r → ⊥)
      → ((k : ℕ) (x : Row) → slice_get rows k ≡ Some x → is_open x ≡ true → x.unit < row.unit → (drains rows x.unit || drains rows row.unit) ≡ true → ⊥) → true ≡ is_eligible rows r
  waits_for_none one two = eligible_is false (none_numbered (λ (p : ℕ × Row). waits_for rows r row p.0 p.1) rows (λ k x h. never _ _ _ _ _ _
      (λ u a l. one k x h u (eqb-true x.unit row.unit a) (ltb-true k r l))
      (λ u m d. two k x h u (ltb-true x.unit row.unit m) d)))

  waits : (k : ℕ) (x : Row) → slice_get rows k ≡ Some x → waits_for rows r row k x ≡ true → false ≡ is_eligible rows r
  waits k x h w = eligible_is true (any_numbered (λ (p : ℕ × Row). waits_for rows r row p.0 p.1) rows k x h w)

  -- It waits for an earlier unfinished request of its chain that is no linked timeout.
  waits_in_unit : (k : ℕ) (x : Row) → slice_get rows k ≡ Some x → is_open x ≡ true → x.unit ≡ row.unit → k < r → is_guard x ≡ false → false ≡ is_eligible rows r
  waits_in_unit k x h u same less plain = waits k x h (and_from _ _ u (or_left _ _ (and_from _ _ (eq-eqb x.unit row.unit same) (and_from _ _ (lt-ltb k r less) (ap not plain)))))

  -- It waits for an unfinished request of an earlier chain, if one of the two chains drains.
  waits_in_drain : (k : ℕ) (x : Row) → slice_get rows k ≡ Some x → is_open x ≡ true → x.unit < row.unit → (drains rows x.unit || drains rows row.unit) ≡ true → false ≡ is_eligible rows r
  waits_in_drain k x h u less d = waits k x h (and_from _ _ u (or_right _ _ (and_from _ _ (lt-ltb x.unit row.unit less) d)))

  -- The first unfinished request from `from` on, if it belongs to the chain, is no linked timeout.
  least_is_free : (from k : ℕ) (x : Row) → IsNext index.unfinished from k → from ≤ row.unit → slice_get rows k ≡ Some x → is_open x ≡ true → x.unit ≡ row.unit → is_guard x ≡ false
  least_is_free from k x next low h u same = elim (cases_Bool (is_guard x)) [
    | inr plain ↦ plain
    | inl guard ↦ absurd (
        let t = guards k x h guard u in
        let b = i.chained.back t.0 t.1 t.3 in
        let e = t.5 in
        not_open t.0 t.1 t.3 (next.least t.0 (omega (arith, b, e, same, low)) t.2) t.4)
  ]

  pub waits_for_least : (from k : ℕ) → IsNext index.unfinished from k → k < r → (from ≡ row.unit) ⊎ ((from ≡ 0) × (drains rows row.unit ≡ true)) → false ≡ is_eligible rows r
  waits_for_least from k next less why = let w = open_row k next.member in by w.0 w.1 w.2 (cases_eq w.0.unit row.unit) why
    where
      by : (x : Row) → slice_get rows k ≡ Some x → is_open x ≡ true → (x.unit ≡ row.unit) ⊎ (x.unit ≡ row.unit → ⊥) → (from ≡ row.unit) ⊎ ((from ≡ 0) × (drains rows row.unit ≡ true)) → false ≡ is_eligible rows r
      by x h u (inl same) (inl e) = waits_in_unit k x h u same less (least_is_free from k x next (omega (arith, e)) h u same)
      by x h u (inl same) (inr e) = waits_in_unit k x h u same less (least_is_free from k x next (let z = e.0 in omega (arith, z)) h u same)
      by x h u (inr other) (inl e) = absurd (other (i.chained.run k r x row h here (omega (arith, less)) (let a = next.after in omega (arith, a, e))))
      by x h u (inr other) (inr e) = waits_in_drain k x h u (let up = rises k r x row h here (omega (arith, less)) in apart x.unit row.unit up other) (or_right _ _ e.1)
        where
          apart : (m n : ℕ) → m ≤ n → (m ≡ n → ⊥) → m < n
          apart m n l ne = elim (cases_lt m n) [ inl lt ↦ lt | inr ge ↦ absurd (ne (omega (arith, l, ge))) ]

  -- The chain drains.
  pub eligible_in_drain : (b : Bool) → has index.barriers row.unit ≡ true → MatchBool b (IsNext index.unfinished 0 r) ((k : ℕ) × (k < r) × IsNext index.unfinished 0 k) → b ≡ is_eligible rows r
  eligible_in_drain false drain found = waits_for_least 0 found.0 found.2 found.1 (inr (refl, drains_by drain))
  eligible_in_drain true drain next = waits_for_none
      (λ k x h u same less. not_open k x h (next.least k (omega arith) less) u)
      (λ k x h u low d. elim (cases_lt k r) [
        | inl less ↦ not_open k x h (next.least k (omega arith) less) u
        | inr late ↦ let up = rises r k row x here h late in absurd (omega (arith, up, low))
      ])

  -- The chain does not drain, and has no earlier unfinished request.
  pub eligible_in_turn : (b : Bool) → has index.barriers row.unit ≡ false → IsNext index.unfinished row.unit r
      → MatchBool b ((k : ℕ) → k < row.unit → has index.barriers k ≡ false) ((k : ℕ) × (k < row.unit) × (has index.barriers k ≡ true)) → b ≡ is_eligible rows r
  eligible_in_turn false drain next found =
      let p = and_parts _ _ (sym (i.barriers found.0) ∙ found.2) in
      let w = any_of_found is_open rows found.0 p.1 in
      let less = found.1 in
      let same = w.same in
      waits_in_drain w.number w.row w.there w.passes (omega (arith, less, same)) (or_left _ _ (ap (drains rows) same ∙ p.0))
  eligible_in_turn true drain next none = waits_for_none
      (λ k x h u same less. not_open k x h (next.least k (let b = i.chained.back k x h in omega (arith, b, same)) less) u)
      (λ k x h u low d. elim (or_cases _ _ d) [
        | inr own ↦ both_ways _ (drains_not drain) own
        | inl its ↦ both_ways _ (none x.unit low) (i.barriers x.unit ∙ and_from _ _ its (any_of_true is_open rows k x x.unit h refl u))
      ])
