-- Invariants that a submission preserves.
use Rattle.machine.proofs.Common.{◌≡◌, ℕ, ℤ, Bool, true, refl, sym, ◌∙◌, ap, subst, List, ◌++◌, length, ◌+◌, ◌*◌, ◌%◌, ◌<◌, ◌≤◌, ◌^◌, ◌⊎◌, inl, inr, length-append, length-take, arith, Option, Some, None, slice_get, Sqe, common_steps, gets, Row, formed_taken, sub_length, waiting_after, rows_of, direct_of, taken_of, result_in, Direct, PutsWithin, WorldState, puts_more, fall_of, is_guard, is_unfinished, ended_of, chained-batch, get-appended, counted-append, ended-append, GuardsAreLinked, offered, taken_words, taken_entries, entries_for, taken, submitted, GuardIsLinked, Mostly, RowFormed, WellFormed, Machine, SubWords, SubFormed, waiting, sub_list}
use Rattle.links_drains.proofs.{Batching.length-rows_of, DirectPairs.direct-batch, DirectPairs.unlisted_passes}
use Rattle.machine.proofs.{FormedMachines.mostly, CascadedRows.formed_cascaded_but, GuardLemmas.batch_target_is, GuardLemmas.batch_guard, GuardLemmas.guard_before, GuardLemmas.guards_linked, TakingWords.length-up_to_entry, FormedRows.length-entries_at, FormedRows.counted-rows_of, FormedRows.batch_row}

-- ---- How many entries

pub length-offered : (w : SubWords) (k : ℕ) → SubFormed w → length (offered w k) ≤ waiting w.head w.tail
length-offered w k f = let a = length-take k (sub_list w) in let b = sub_length w f in omega (arith, a, b)

pub length-taken_words : (b : Bool) (v : WorldState) (w : SubWords) (k : ℕ) → length (taken_words b v w k) ≤ length (offered w k)
length-taken_words = grind (arith, length-up_to_entry)

-- At most as many entries are taken as are offered.
length-taken_of : (b : Bool) (v : WorldState) (es : List Sqe) → length (taken_of b v es) ≤ length es
length-taken_of = grind (arith, length-take)

pub length-taken_entries : (b : Bool) (v : WorldState) (w : SubWords) (k : ℕ) → length (taken_entries b v w k) ≤ length (offered w k)
length-taken_entries = grind (arith, length-taken_of, length-entries_at)

pub waits_after : (h t k n : ℕ) → h < 2 ^ 32 → t < 2 ^ 32 → k ≤ waiting h t → waiting h t ≤ n → waiting ((h + k) % 2 ^ 32) t ≤ n
waits_after h t k n a b c d = let e = waiting_after h t k a b c in omega (arith, e, d)

pub below_wrap : (n : ℕ) → n % 2 ^ 32 < 2 ^ 32
below_wrap n = omega arith

-- ---- The machine with the requests of a batch

pub mostly_taken : (m : Machine) (k : ℕ) → Mostly m → length m.table + length (offered m.submissions k) ≤ 65536 → Mostly (taken m k)
mostly_taken = grind (arith, formed_taken, below_wrap, waits_after, length-taken_words, length-offered, ended-append, length-append, length-rows_of, length-taken_entries, chained-batch, counted-append, counted-rows_of)

-- A request was there before, or belongs to the batch.
pub old_or_new : (rows more : List Row) (j : ℕ) (y : Row) → slice_get (rows ++ more) j ≡ Some y → (slice_get rows j ≡ Some y) ⊎ ((i : ℕ) × (j ≡ length rows + i) × (slice_get more i ≡ Some y))
old_or_new = grind (arith, common_steps, gets, get-appended)

-- The requests of a batch that don't complete at once are well formed.
pub formed_submitted : (m : Machine) (k : ℕ) → WellFormed m → length m.table + length (offered m.submissions k) ≤ 65536 → WellFormed (submitted m k)
formed_submitted m k f l = formed_cascaded_but (taken m k) direct (mostly_taken m k (mostly m f) l) puts (λ j y e. by j y (old_or_new m.table batch j y e)) (λ r x e g u n. guarded r x g u n (old_or_new m.table batch r x e))
  where
    batch : List Row
    batch = rows_of m.world (length m.table) (entries_for m k)

    direct : List (ℕ × ℤ)
    direct = direct_of m.world (length m.table) (entries_for m k)

    puts : PutsWithin (65536 * (ended_of (taken m k).table + length (fall_of (taken m k).table m.counted direct))) m.world
    puts = puts_more (65536 * ended_of m.table) _ m.world (let a = ended-append m.table batch in omega (arith, a)) f.puts

    at : (i : ℕ) (y : Row) → slice_get batch i ≡ Some y → (o : Option ℤ) → result_in direct (length m.table + i) ≡ o → RowFormed m.world y ⊎ ((res : ℤ) × (result_in direct (length m.table + i) ≡ Some res))
    at = grind (arith, batch_row, unlisted_passes)

    by : (j : ℕ) (y : Row) → (slice_get m.table j ≡ Some y) ⊎ ((i : ℕ) × (j ≡ length m.table + i) × (slice_get batch i ≡ Some y)) → RowFormed m.world y ⊎ ((res : ℤ) × (result_in direct j ≡ Some res))
    by j y (inl e) = inl (f.rows j y e)
    by j y (inr e) = subst (λ n. RowFormed m.world y ⊎ ((res : ℤ) × (result_in direct n ≡ Some res))) (sym e.1) (at e.0 y e.2 (result_in direct (length m.table + e.0)) refl)

    guarded : (r : ℕ) (x : Row) → is_guard x ≡ true → is_unfinished x.phase ≡ true → result_in direct r ≡ None → (slice_get m.table r ≡ Some x) ⊎ ((i : ℕ) × (r ≡ length m.table + i) × (slice_get batch i ≡ Some x)) → GuardIsLinked (m.table ++ batch) r x
    guarded r x g u n (inl e) = guard_before m.table batch r x (f.guards r x e g u)
    guarded r x g u n (inr e) =
        let none = sym (ap (result_in direct) e.1) ∙ n in
        subst (λ j. GuardIsLinked (m.table ++ batch) j x) (sym e.1) (batch_guard m.world m.table (entries_for m k) e.0 x e.2 g (unlisted_passes m.world (length m.table) (entries_for m k) e.0 x e.2 none))

-- ---- What the cascade requires

pub record CascadesIn (n : Machine) (direct : List (ℕ × ℤ)) : Type 0 where
  pub direct_rows : Direct n.table direct
  pub guards : GuardsAreLinked n.table
  pub mostly : Mostly n

pub cascades_in : (m n : Machine) (k : ℕ) → WellFormed m → length m.table + length (offered m.submissions k) ≤ 65536 → n ≡ taken m k → CascadesIn n (direct_of m.world (length m.table) (entries_for m k))
cascades_in m n k f l e = subst (λ (x : Machine). CascadesIn x direct) (sym e) (record {
  direct_rows = direct-batch m.world m.table (entries_for m k);
  guards = λ r t x h g u w. by r t x g u w (old_or_new m.table batch r x h);
  mostly = mostly_taken m k (mostly m f) l;
})
  where
    batch : List Row
    batch = rows_of m.world (length m.table) (entries_for m k)

    direct : List (ℕ × ℤ)
    direct = direct_of m.world (length m.table) (entries_for m k)

    by : (r t : ℕ) (x : Row) → is_guard x ≡ true → is_unfinished x.phase ≡ true → x.target ≡ Some t → (slice_get m.table r ≡ Some x) ⊎ ((i : ℕ) × (r ≡ length m.table + i) × (slice_get batch i ≡ Some x)) → t + 1 ≡ r
    by = grind (arith, guards_linked, batch_target_is)
