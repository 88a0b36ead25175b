-- Linked timeouts come directly after their targets.
use Rattle.machine.proofs.Common.{◌≡◌, ℕ, ℤ, zero, suc, Bool, true, false, cond, refl, sym, ◌∙◌, ap, subst, List, [], ◌∷◌, ◌++◌, length, ◌+◌, ◌-◌, inl, inr, arith, Option, Some, None, option_map, is_none, slice_get, ◌==◌, ◌&&◌, if◌then◌else◌, option_and_then, option_map_or, result_err, cases_eq, eq-eqb, eqb-true, ne_eqb, Sqe, Row, Phase, Queued, WorldState, updated, previous_in, chain_of, error_at, error_of, row_of as batch_row_of, rows_of, shown_on, is_guard, is_linked, is_queued, is_unfinished, Became, became, get-batch, get-appended, get-updated, GuardsAreLinked, is_guard_of, started, AllGuardsLinked, GuardIsLinked, WellFormed, Machine, GuardsFollow, is_eligible, can_guard, check_of}

-- ---- What cascades require of linked timeouts

-- An unfinished linked timeout comes directly after its target.
pub guards_linked : (rows : List Row) → AllGuardsLinked rows → GuardsAreLinked rows
guards_linked rows h r t row e g u k =
    let s = h r row e g u in
    let same : s.target ≡ t = let o = sym s.is ∙ k in cc in
    ap (λ n. n + 1) (sym same) ∙ s.follows

pub guards_follow : (m : Machine) → WellFormed m → GuardsFollow m.table
guards_follow m f k guard e g u =
    let s = f.guards k guard e g u in
    (s.target, s.row, (let b = s.follows in omega (arith, b)), s.there, ap is_unfinished s.alike ∙ u, s.unit)

-- ---- Requests added after others

front : (rows more : List Row) (i : ℕ) (x : Row) → slice_get rows i ≡ Some x → slice_get (rows ++ more) i ≡ Some x
front [] more i x h = absurd cc
front (y ∷ rows) more zero x h = h
front (y ∷ rows) more (suc i) x h = front rows more i x h

pub guard_before : (rows more : List Row) (r : ℕ) (x : Row) → GuardIsLinked rows r x → GuardIsLinked (rows ++ more) r x
guard_before rows more r x s = record { target = s.target; is = s.is; follows = s.follows; row = s.row; there = front rows more s.target s.row s.there; other = s.other; unit = s.unit; alike = s.alike }

-- ---- Linked timeouts of a batch

-- A valid LINK_TIMEOUT follows an entry with another opcode.
passes_previous : (w : WorldState) (previous : Option ℕ) (e : Sqe) → e.opcode ≡ 15 → result_err (check_of w previous e) ≡ None → can_guard previous ≡ true
passes_previous = grind arith

-- The entry before i is linked, and no LINK_TIMEOUT.
record Before (es : List Sqe) (i : ℕ) : Type 0 where
  index : ℕ
  is : i ≡ suc index
  entry : Sqe
  there : slice_get es index ≡ Some entry
  linked : is_linked entry ≡ true
  other : (entry.opcode == 15) ≡ false

before_of : (es : List Sqe) (i : ℕ) → can_guard (previous_in es i) ≡ true → Before es i
before_of es zero h = absurd cc
before_of es (suc j) h = by (slice_get es j) refl h
  where
    shown : (p : Sqe) → slice_get es j ≡ Some p → (b : Bool) → is_linked p ≡ b → can_guard (if b then Some p.opcode else None) ≡ true → Before es (suc j)
    shown = grind arith

    by : (o : Option Sqe) → slice_get es j ≡ o → can_guard (option_and_then shown_on o) ≡ true → Before es (suc j)
    by = grind arith

pub batch_guard : (w : WorldState) (rows : List Row) (es : List Sqe) (i : ℕ) (x : Row) → slice_get (rows_of w (length rows) es) i ≡ Some x → is_guard x ≡ true → error_at w es i ≡ None
    → GuardIsLinked (rows ++ rows_of w (length rows) es) (length rows + i) x
batch_guard w rows es i x h g p = subst (GuardIsLinked (rows ++ rows_of w first es) (first + i)) (sym b.is) (record {
  target = first + v.index;
  is = ap (λ c. if c && is_none (error_of w es i b.entry) then Some (first + i - 1) else None) number ∙ ap (λ o. if is_none o then Some (first + i - 1) else None) passes ∙ (let k = v.is in let n : first + i - 1 ≡ first + v.index = omega (arith, k) in ap Some n);
  follows = let k = v.is in omega (arith, k);
  row = batch_row_of w first es v.index v.entry;
  there = get-appended rows (rows_of w first es) v.index ∙ get-batch w first es v.index ∙ ap (option_map (batch_row_of w first es v.index)) v.there;
  other = v.other;
  unit = ap (λ n. first + n) (sym (ap (chain_of es) v.is ∙ ap (λ o. cond (option_map_or is_linked o false) (chain_of es v.index) (suc v.index)) v.there ∙ ap (λ c. cond c (chain_of es v.index) (suc v.index)) v.linked));
  alike = refl;
})
  where
    first : ℕ
    first = length rows

    b : Became w first es i x
    b = became w first es i x h

    number : (b.entry.opcode == 15) ≡ true
    number = sym (ap is_guard b.is) ∙ g

    passes : error_of w es i b.entry ≡ None
    passes = sym (ap (option_and_then (error_of w es i)) b.there) ∙ p

    v : Before es i
    v = before_of es i (passes_previous w (previous_in es i) b.entry (eqb-true b.entry.opcode 15 number) passes)

-- A linked timeout of a batch that has a target is valid, and comes directly after it.
pub batch_target : (w : WorldState) (rows : List Row) (es : List Sqe) (i t : ℕ) (x : Row) → slice_get (rows_of w (length rows) es) i ≡ Some x → is_guard x ≡ true → x.target ≡ Some t → GuardIsLinked (rows ++ rows_of w (length rows) es) (length rows + i) x
batch_target w rows es i t x h g k = by (error_of w es i b.entry) refl (sym (ap (λ (y : Row). y.target) b.is) ∙ k)
  where
    b : Became w (length rows) es i x
    b = became w (length rows) es i x h

    by : (o : Option ℤ) → error_of w es i b.entry ≡ o → (if (b.entry.opcode == 15) && is_none o then Some (length rows + i - 1) else None) ≡ Some t → GuardIsLinked (rows ++ rows_of w (length rows) es) (length rows + i) x
    by None e q = batch_guard w rows es i x h g (ap (option_and_then (error_of w es i)) b.there ∙ e)
    by (Some n) e q = absurd (let o : None ≡ Some t = sym (ap (λ c. if c && false then Some (length rows + i - 1) else None) (sym (ap is_guard b.is) ∙ g)) ∙ q in cc)

-- The target of a linked timeout in a batch, if it has one, is directly before it.
pub batch_target_is : (w : WorldState) (first : ℕ) (es : List Sqe) (i t : ℕ) (x : Row) → slice_get (rows_of w first es) i ≡ Some x → is_guard x ≡ true → x.target ≡ Some t → t + 1 ≡ first + i
batch_target_is w first es i t x h g k = by (error_of w es i b.entry) refl (sym (ap (λ (y : Row). y.target) b.is) ∙ k)
  where
    b : Became w first es i x
    b = became w first es i x h

    number : (b.entry.opcode == 15) ≡ true
    number = sym (ap is_guard b.is) ∙ g

    by : (o : Option ℤ) → error_of w es i b.entry ≡ o → (if (b.entry.opcode == 15) && is_none o then Some (first + i - 1) else None) ≡ Some t → t + 1 ≡ first + i
    by = grind (arith, before_of, passes_previous, eqb-true, number)

-- ---- A request is issued together with its linked timeout

pub here : (f : Row → Row) (rows : List Row) (r : ℕ) (x : Row) → slice_get rows r ≡ Some x → slice_get (updated f rows r) r ≡ Some (f x)
here f rows r x h = get-updated f rows r r ∙ ap (λ b. cond b (option_map f (slice_get rows r)) (slice_get rows r)) (eq-eqb r r refl) ∙ ap (option_map f) h

pub apart : (f : Row → Row) (rows : List Row) (r i : ℕ) → (r ≡ i → ⊥) → slice_get (updated f rows r) i ≡ slice_get rows i
apart f rows r i h = get-updated f rows r i ∙ ap (λ b. cond b (option_map f (slice_get rows i)) (slice_get rows i)) (ne_eqb r i h)

pub same_row : (a b : Row) → Some a ≡ Some b → a ≡ b
same_row a b h = cc

-- The request is the queued linked timeout of request r.
pub record IsGuardOf (r : ℕ) (y : Row) : Type 0 where
  pub guard : is_guard y ≡ true
  pub queued : is_queued y.phase ≡ true
  pub target : y.target ≡ Some r

pub guard_is_guard_of : (r : ℕ) (y : Row) → is_guard_of r y ≡ true → IsGuardOf r y
guard_is_guard_of = grind arith

is_guard_from : (r : ℕ) (y : Row) → is_guard y ≡ true → is_queued y.phase ≡ true → y.target ≡ Some r → is_guard_of r y ≡ true
is_guard_from r y g q t = ap (λ b. b && (is_queued y.phase && option_map_or (λ n. n == r) y.target false)) g ∙ ap (λ b. b && option_map_or (λ n. n == r) y.target false) q ∙ ap (λ o. option_map_or (λ n. n == r) o false) t ∙ eq-eqb r r refl

pub unfinished_queued : (p : Phase) → is_queued p ≡ true → is_unfinished p ≡ true
unfinished_queued = grind arith

-- The table after request r was issued, and then its queued linked timeout.
abbrev pub started_in_turn : ℕ → ℕ → List Row → ℕ → List Row
started_in_turn c n rows r =
    if option_map_or (is_guard_of r) (slice_get rows (r + 1)) false
    then updated (started c n) (updated (started c n) rows r) (r + 1)
    else updated (started c n) rows r

pub started_guards : (c n : ℕ) (rows : List Row) (r : ℕ) (x : Row) → slice_get rows r ≡ Some x → x.phase ≡ Queued → is_guard x ≡ false → AllGuardsLinked rows → AllGuardsLinked (started_in_turn c n rows r)
started_guards c n rows r x h q plain s = by (slice_get rows (r + 1)) refl
  where
    f : Row → Row
    f = started c n

    not_itself : (rs : List Row) (i : ℕ) (y : Row) → slice_get rs i ≡ Some y → is_guard y ≡ true → r ≡ i → slice_get rs r ≡ Some (f x) → ⊥
    not_itself rs i y e g k o = let m = same_row (f x) y (sym o ∙ ap (slice_get rs) k ∙ e) in let z : false ≡ true = sym plain ∙ ap is_guard m ∙ g in cc

    -- The request has no linked timeout.
    alone : ((y : Row) → slice_get rows (r + 1) ≡ Some y → is_guard_of r y ≡ true → ⊥) → AllGuardsLinked (updated f rows r)
    alone none i y e g u = elim (cases_eq r i) [
      | inl k ↦ absurd (not_itself (updated f rows r) i y e g k (here f rows r x h))
      | inr k ↦
          let e' = sym (apart f rows r i k) ∙ e in
          let w = s i y e' g u in
          let away : (r ≡ w.target) → ⊥ = λ t.
          let at : i ≡ r + 1 = sym w.follows ∙ ap (λ n. n + 1) (sym t) in
          let mine = same_row x w.row (sym h ∙ ap (slice_get rows) t ∙ w.there) in
          let queued : is_queued y.phase ≡ true = ap is_queued (sym w.alike ∙ sym (ap (λ (z : Row). z.phase) mine) ∙ q) in
          none y (sym (ap (slice_get rows) at) ∙ e') (is_guard_from r y g queued (w.is ∙ ap Some (sym t))) in
          record { target = w.target; is = w.is; follows = w.follows; row = w.row; there = apart f rows r w.target away ∙ w.there; other = w.other; unit = w.unit; alike = w.alike }
    ]

    -- The request has one.
    pair : (y : Row) → slice_get rows (r + 1) ≡ Some y → IsGuardOf r y → AllGuardsLinked (updated f (updated f rows r) (r + 1))
    pair y e t i z o g u = elim (cases_eq (r + 1) i) [
      | inl k ↦
          let w = s (r + 1) y e t.guard (unfinished_queued y.phase t.queued) in
          let target : w.target ≡ r = let m = w.follows in omega (arith, m) in
          let mine = same_row x w.row (sym h ∙ ap (slice_get rows) (sym target) ∙ w.there) in
          let is = same_row (f y) z (sym (here f (updated f rows r) (r + 1) y (apart f rows r (r + 1) (λ m. absurd (omega (arith, m))) ∙ e)) ∙ ap (slice_get (updated f (updated f rows r) (r + 1))) k ∙ o) in
          subst (GuardIsLinked (updated f (updated f rows r) (r + 1)) i) is (record {
            target = r;
            is = t.target;
            follows = k;
            row = f x;
            there = apart f (updated f rows r) (r + 1) r (λ m. absurd (omega (arith, m))) ∙ here f rows r x h;
            other = plain;
            unit = ap (λ (v : Row). v.unit) mine ∙ w.unit;
            alike = refl;
          })
      | inr k ↦ elim (cases_eq r i) [
        | inl l ↦ absurd (not_itself (updated f (updated f rows r) (r + 1)) i z o g l (apart f (updated f rows r) (r + 1) r (λ m. absurd (omega (arith, m))) ∙ here f rows r x h))
        | inr l ↦
            let o' = sym (apart f (updated f rows r) (r + 1) i k ∙ apart f rows r i l) ∙ o in
            let w = s i z o' g u in
            let away : (r ≡ w.target) → ⊥ = λ m. k (ap (λ n. n + 1) m ∙ w.follows) in
            let past : (r + 1 ≡ w.target) → ⊥ = λ m.
            let guard = same_row y w.row (sym e ∙ ap (slice_get rows) m ∙ w.there) in
            let b : false ≡ true = sym w.other ∙ sym (ap is_guard guard) ∙ t.guard in cc in
            record { target = w.target; is = w.is; follows = w.follows; row = w.row; there = apart f (updated f rows r) (r + 1) w.target past ∙ apart f rows r w.target away ∙ w.there; other = w.other; unit = w.unit; alike = w.alike }
      ]
    ]

    by_guard : (b : Bool) → option_map_or (is_guard_of r) (slice_get rows (r + 1)) false ≡ b → AllGuardsLinked (if b then updated f (updated f rows r) (r + 1) else updated f rows r) → AllGuardsLinked (started_in_turn c n rows r)
    by_guard b k a = subst (λ (d : Bool). AllGuardsLinked (if d then updated f (updated f rows r) (r + 1) else updated f rows r)) (sym k) a

    chosen : (y : Row) → slice_get rows (r + 1) ≡ Some y → (b : Bool) → is_guard_of r y ≡ b → AllGuardsLinked (started_in_turn c n rows r)
    chosen y e true k = by_guard true (ap (λ o. option_map_or (is_guard_of r) o false) e ∙ k) (pair y e (guard_is_guard_of r y k))
    chosen y e false k = by_guard false (ap (λ o. option_map_or (is_guard_of r) o false) e ∙ k) (alone (λ z a t. let m = same_row z y (sym a ∙ e) in let b : true ≡ false = sym t ∙ ap (is_guard_of r) m ∙ k in cc))

    by : (o : Option Row) → slice_get rows (r + 1) ≡ o → AllGuardsLinked (started_in_turn c n rows r)
    by None e = by_guard false (ap (λ o. option_map_or (is_guard_of r) o false) e) (alone (λ z a t. let b : None ≡ Some z = sym e ∙ a in cc))
    by (Some y) e = chosen y e (is_guard_of r y) refl

-- A request that may be issued is no linked timeout.
pub eligible_no_guard : (rows : List Row) (r : ℕ) (x : Row) → slice_get rows r ≡ Some x → is_eligible rows r ≡ true → is_guard x ≡ false
eligible_no_guard = grind arith
