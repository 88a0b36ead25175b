-- The requests of a cascade, and the machine after it.
use Rattle.machine.proofs.Common.{◌≡◌, ℕ, ℤ, zero, suc, Bool, true, false, cond, refl, sym, ◌∙◌, ap, subst, List, [], ◌∷◌, length, ◌+◌, ◌*◌, ◌<◌, ◌≤◌, ◌⊎◌, inl, inr, arith, eq-eqb, Option, Some, None, option_map, slice_get, not, option_map_or, Row, Ended, PutsWithin, puts_more, ended_by, result_in, Direct, is_guard, map_numbered, is_ended, is_unfinished, ended_of, counted_in, fall_of, counted_cascade, unlisted, cascade_unfinished, cascade_rising, target_stays, AllGuardsLinked, GuardIsLinked, Mostly, NoneMet, RowFormed, WellFormed, Machine, mapped_at, all_ended, cascaded}
use Rattle.links_drains.specs.Counts.{is_met}
use Rattle.machine.proofs.{EndedRows.CanEnd, EndedRows.can_end, EndedRows.ended_or_same, EndedRows.ended_together, EndedRows.unlisted_same, FormedMachines.mostly, FormedMachines.mostly_ended, FormedMachines.formed_of, FormedRows.ended_row}

pub direct_cascade : (rows : List Row) (c : ℕ) (direct : List (ℕ × ℤ)) → Direct rows (fall_of rows c direct)
direct_cascade rows c direct = record { each = cascade_unfinished rows c direct; rising = cascade_rising rows c direct }

can_cascade : (rows : List Row) (c : ℕ) (direct : List (ℕ × ℤ)) → CanEnd rows (fall_of rows c direct)
can_cascade rows c direct = can_end rows (fall_of rows c direct) (direct_cascade rows c direct)

pub threads_cascaded : (m : Machine) (direct : List (ℕ × ℤ)) → (cascaded m direct).threads ≡ m.threads
unfolding cascaded
threads_cascaded m direct = refl

-- A direct completion is in the cascade's list.
pub cascades_some : (rows : List Row) (c r : ℕ) (res : ℤ) (x : Row) → slice_get rows r ≡ Some x → is_ended x.phase ≡ false → 1 ≤ length (fall_of rows c ((r, res) ∷ []))
cascades_some rows c r res x e u = by (fall_of rows c ((r, res) ∷ [])) refl
  where
    listed : result_in ((r, res) ∷ []) r ≡ Some res
    listed = ap (λ b. cond b (Some res) None) (eq-eqb r r refl)

    by : (ps : List (ℕ × ℤ)) → fall_of rows c ((r, res) ∷ []) ≡ ps → 1 ≤ length ps
    by [] k = absurd (let d = (unlisted rows c ((r, res) ∷ []) r x e (ap not u) (ap (λ ps. result_in ps r) k)).undirected in let z = sym d ∙ listed in cc)
    by (p ∷ ps) k = omega arith

-- A completed request waits for no count.
ended_unmet : (n : ℕ) (x : Row) → is_ended x.phase ≡ true → is_met n x ≡ false
ended_unmet = grind arith

-- After a cascade, no issued TIMEOUT has reached its count.
cascaded_unmet : (m : Machine) (direct : List (ℕ × ℤ)) → NoneMet (cascaded m direct).counted (cascaded m direct).table
unfolding cascaded
cascaded_unmet m direct r x h = by (slice_get m.table r) refl (sym (mapped_at (ended_by endings_so) m.table r) ∙ h)
  where
    endings_so : List (ℕ × ℤ)
    endings_so = fall_of m.table m.counted direct

    total : ℕ
    total = m.counted + counted_in m.table endings_so

    stays : (y : Row) → slice_get m.table r ≡ Some y → result_in endings_so r ≡ None → (b : Bool) → is_ended y.phase ≡ b → is_met total y ≡ false
    stays y e n true u = ended_unmet total y u
    stays y e n false u = ap (λ k. is_met (m.counted + k) y) (counted_cascade m.table m.counted direct) ∙ (unlisted m.table m.counted direct r y e (ap not u) n).met

    by_result : (y : Row) → slice_get m.table r ≡ Some y → (o : Option ℤ) → result_in endings_so r ≡ o → is_met total (option_map_or (λ res. record y { phase = Ended res }) o y) ≡ false
    by_result = grind (arith, stays)

    by : (o : Option Row) → slice_get m.table r ≡ o → option_map (λ y. ended_by endings_so r y) o ≡ Some x → is_met total x ≡ false
    by = grind (arith, endings_so, total, by_result)

-- After a cascade, linked timeouts come after their targets, if all but the direct completions did
-- before.
guards_cascaded : (m : Machine) (direct : List (ℕ × ℤ)) → ((r : ℕ) (x : Row) → slice_get m.table r ≡ Some x → is_guard x ≡ true → is_unfinished x.phase ≡ true → result_in direct r ≡ None → GuardIsLinked m.table r x) → AllGuardsLinked (map_numbered (ended_by (fall_of m.table m.counted direct)) m.table)
guards_cascaded m direct h r x e g u = by (ended_or_same m.table endings_so r x e)
  where
    endings_so : List (ℕ × ℤ)
    endings_so = fall_of m.table m.counted direct

    by : ((slice_get m.table r ≡ Some x) × (result_in endings_so r ≡ None)) ⊎ (is_ended x.phase ≡ true) → GuardIsLinked (map_numbered (ended_by endings_so) m.table) r x
    by (inr k) = absurd (let o = sym u ∙ ap not k in cc)
    by (inl k) =
        let s = h r x k.0 g u (unlisted m.table m.counted direct r x k.0 u k.1).undirected in
        let out = target_stays m.table m.counted direct r s.target x s.row k.0 u g s.is s.there (ap is_unfinished s.alike ∙ u) s.other k.1 in
        record { target = s.target; is = s.is; follows = s.follows; row = s.row; there = unlisted_same m.table endings_so s.target out ∙ s.there; other = s.other; unit = s.unit; alike = s.alike }

-- After a cascade, the machine is well formed, if only requests that complete directly weren't.
pub formed_cascaded_but : (m : Machine) (direct : List (ℕ × ℤ)) → Mostly m → PutsWithin (65536 * (ended_of m.table + length (fall_of m.table m.counted direct))) m.world → ((j : ℕ) (y : Row) → slice_get m.table j ≡ Some y → RowFormed m.world y ⊎ ((res : ℤ) × (result_in direct j ≡ Some res)))
    → ((r : ℕ) (x : Row) → slice_get m.table r ≡ Some x → is_guard x ≡ true → is_unfinished x.phase ≡ true → result_in direct r ≡ None → GuardIsLinked m.table r x) → WellFormed (cascaded m direct)
unfolding cascaded
formed_cascaded_but m direct f puts h guards =
    formed_of (all_ended m endings_so) (mostly_ended m endings_so f can)
    (subst (λ n. PutsWithin (65536 * n) m.world) (sym (ended_together m.table endings_so can).ended) puts)
    (record { each = λ j y e. by j y (ended_or_same m.table endings_so j y e) })
    (guards_cascaded m direct guards)
    (cascaded_unmet m direct)
  where
    endings_so : List (ℕ × ℤ)
    endings_so = fall_of m.table m.counted direct

    can : CanEnd m.table endings_so
    can = can_cascade m.table m.counted direct

    stays : (j : ℕ) (y : Row) → slice_get m.table j ≡ Some y → result_in endings_so j ≡ None → (b : Bool) → is_ended y.phase ≡ b → RowFormed m.world y ⊎ ((res : ℤ) × (result_in direct j ≡ Some res)) → RowFormed m.world y
    stays j y e n true u k = ended_row m.world y u
    stays j y e n false u (inl k) = k
    stays j y e n false u (inr k) = absurd (let d = (unlisted m.table m.counted direct j y e (ap not u) n).undirected in let x = sym d ∙ k.1 in cc)

    by : (j : ℕ) (y : Row) → ((slice_get m.table j ≡ Some y) × (result_in endings_so j ≡ None)) ⊎ (is_ended y.phase ≡ true) → RowFormed m.world y
    by j y (inl a) = stays j y a.0 a.1 (is_ended y.phase) refl (h j y a.0)
    by j y (inr a) = ended_row m.world y a

pub formed_cascaded : (m : Machine) (direct : List (ℕ × ℤ)) → WellFormed m → WellFormed (cascaded m direct)
formed_cascaded m direct f =
    formed_cascaded_but m direct (mostly m f) (puts_more (65536 * ended_of m.table) (65536 * (ended_of m.table + length (fall_of m.table m.counted direct))) m.world (omega arith) f.puts) (λ j y e. inl (f.rows j y e))
    (λ r x e g u n. f.guards r x e g u)

-- Two unfinished requests, in order, are valid direct completions.
pub direct_two : (rows : List Row) (t r : ℕ) (n res : ℤ) (y x : Row) → slice_get rows t ≡ Some y → is_ended y.phase ≡ false → slice_get rows r ≡ Some x → is_ended x.phase ≡ false → t < r → Direct rows ((t, n) ∷ (r, res) ∷ [])
direct_two rows t r n res y x g v h u l = record { each = each; rising = rising }
  where
    each : (i : ℕ) (p : ℕ × ℤ) → slice_get ((t, n) ∷ (r, res) ∷ []) i ≡ Some p → (z : Row) × (slice_get rows p.0 ≡ Some z) × (is_unfinished z.phase ≡ true)
    each zero p e = let m : t ≡ p.0 = cc in (y, ap (slice_get rows) (sym m) ∙ g, ap not v)
    each (suc zero) p e = let m : r ≡ p.0 = cc in (x, ap (slice_get rows) (sym m) ∙ h, ap not u)
    each (suc (suc i)) p e = absurd cc

    rising : (i j : ℕ) (p q : ℕ × ℤ) → slice_get ((t, n) ∷ (r, res) ∷ []) i ≡ Some p → slice_get ((t, n) ∷ (r, res) ∷ []) j ≡ Some q → i < j → p.0 < q.0
    rising = grind arith

-- So is one unfinished request.
pub direct_one : (rows : List Row) (r : ℕ) (res : ℤ) (x : Row) → slice_get rows r ≡ Some x → is_ended x.phase ≡ false → Direct rows ((r, res) ∷ [])
direct_one rows r res x h u = record { each = each; rising = rising }
  where
    each : (i : ℕ) (p : ℕ × ℤ) → slice_get ((r, res) ∷ []) i ≡ Some p → (y : Row) × (slice_get rows p.0 ≡ Some y) × (is_unfinished y.phase ≡ true)
    each zero p e = let n : r ≡ p.0 = cc in (x, ap (slice_get rows) (sym n) ∙ h, ap not u)
    each (suc i) p e = absurd cc

    rising : (i j : ℕ) (p q : ℕ × ℤ) → slice_get ((r, res) ∷ []) i ≡ Some p → slice_get ((r, res) ∷ []) j ≡ Some q → i < j → p.0 < q.0
    rising = grind arith
