-- A submission of nothing changes nothing.
use Rattle.machine.proofs.Common.{◌≡◌, ℕ, ℤ, pos, Bool, false, refl, sym, ◌∙◌, ap, List, [], length, ◌+◌, ◌⊎◌, inl, inr, arith, rules, Option, Some, None, slice_get, not, if◌then◌else◌, Row, direct_of, rows_of, ecanceled, ended_by, endings, given, or_else, result_in, map_numbered, is_unfinished, became, none_ended, WorldState, SubWords, Delivery, all_posted, is_clear, fall_of, guards_listed, is_met, with_guards, with_met, with_severed, taken_entries, NoneMet, WellFormed, flag_word, is_asleep, Machine, Enter, Take, common_steps, after, all_ended, answered, delivery, entries_for, executed, cascaded, submitted, taken, with_delivery}
use Rattle.timeouts_cancel.proofs.Listed.{upto_all}
use Rattle.machine.proofs.FormedSubmissions.{old_or_new}

pub empty : {X : Type 0} (xs : List X) → length xs ≡ 0 → xs ≡ []
empty = grind (arith, common_steps)

-- ---- An empty cascade

-- A function without results lists nothing.
none_listed : (f : ℕ → Row → Option ℤ) (rows : List Row) → ((r : ℕ) (row : Row) → slice_get rows r ≡ Some row → f r row ≡ None) → endings f rows ≡ []
none_listed f rows h = sym (upto_all f rows 0 (λ r row l e. by r row e (is_unfinished row.phase)))
  where
    by : (r : ℕ) (row : Row) → slice_get rows r ≡ Some row → (b : Bool) → (if b then f r row else None) ≡ None
    by = grind arith

pub nothing_listed : (rows : List Row) (counted : ℕ) → NoneMet counted rows → fall_of rows counted [] ≡ []
nothing_listed rows counted h =
    ap (λ es. with_guards rows (with_met rows counted (with_severed rows es))) (none_listed (λ r row. result_in [] r) rows (λ r row e. refl))
    ∙ ap (λ es. with_guards rows (with_met rows counted es)) (none_listed (λ r row. or_else (result_in [] r) (given false ecanceled)) rows (λ r row e. refl))
    ∙ ap (with_guards rows) (none_listed (λ r row. or_else (result_in [] r) (given (is_met (counted + 0) row) (pos 0))) rows unmet)
    ∙ none_listed (λ r row. or_else (result_in [] r) (given (guards_listed [] row) ecanceled)) rows unguarded
  where
    unmet : (r : ℕ) (row : Row) → slice_get rows r ≡ Some row → given (is_met (counted + 0) row) (pos 0) ≡ None
    unmet r row e = let n : counted + 0 ≡ counted = omega arith in ap (λ k. given (is_met k row) (pos 0)) n ∙ ap (λ b. given b (pos 0)) (h r row e)

    unguarded : (r : ℕ) (row : Row) → slice_get rows r ≡ Some row → given (guards_listed [] row) ecanceled ≡ None
    unguarded = grind arith

-- Posting none changes nothing.
none_posted : (d : Delivery) (a : Bool) → d.submissions.flags ≡ flag_word a (not (is_clear d.backlog)) → all_posted d [] ≡ d
none_posted = search rules

-- Without direct completions, nothing completes.
pub none_complete : (m : Machine) → m.submissions.flags ≡ flag_word (is_asleep m.poller) (not (is_clear m.backlog)) → NoneMet m.counted m.table → cascaded m [] ≡ m
unfolding cascaded
none_complete m flags unmet =
    ap (all_ended m) (nothing_listed m.table m.counted unmet)
    ∙ ap (λ d. made d (map_numbered (ended_by []) m.table) (m.counted + 0)) (none_posted (delivery m) (is_asleep m.poller) flags)
    ∙ ap (λ rows. made (delivery m) rows (m.counted + 0)) (none_ended m.table)
    ∙ ap (made (delivery m) m.table) (let n : m.counted + 0 ≡ m.counted = omega arith in n)
  where
    made : Delivery → List Row → ℕ → Machine
    made d rows n = record (with_delivery m d) { table = rows; counted = n }

pub nothing_cascades : (m : Machine) → WellFormed m → cascaded m [] ≡ m
nothing_cascades m f = none_complete m f.mostly.rings.flags f.unmet

-- A submission without direct completions completes nothing.
pub only_taken : (m : Machine) (k : ℕ) → WellFormed m → direct_of m.world (length m.table) (entries_for m k) ≡ [] → submitted m k ≡ taken m k
only_taken m k f h = ap (cascaded (taken m k)) h ∙ none_complete (taken m k) f.mostly.rings.flags (λ r x e. by r x (old_or_new m.table (rows_of m.world (length m.table) (entries_for m k)) r x e))
  where
    by : (r : ℕ) (x : Row) → (slice_get m.table r ≡ Some x) ⊎ ((i : ℕ) × (r ≡ length m.table + i) × (slice_get (rows_of m.world (length m.table) (entries_for m k)) i ≡ Some x)) → is_met m.counted x ≡ false
    by r x (inl e) = f.unmet r x e
    by r x (inr e) = ap (is_met m.counted) (became m.world (length m.table) (entries_for m k) e.0 x e.2).is

-- ---- Nothing is consumed

no_entries : (b : Bool) (v : WorldState) (w : SubWords) → taken_entries b v w 0 ≡ []
no_entries = grind arith

nothing_taken : (m : Machine) → WellFormed m → taken m 0 ≡ m
nothing_taken = search rules

pub nothing_submitted : (m : Machine) → WellFormed m → submitted m 0 ≡ m
nothing_submitted = grind (arith, no_entries, nothing_taken, nothing_cascades)

pub take_of_nothing : (m : Machine) → WellFormed m → after m (Take 0) ≡ m
take_of_nothing m f = nothing_submitted m f

-- ---- An Enter that submits nothing

pub enter_of_nothing : (m : Machine) (t min_complete : ℕ) → WellFormed m → executed m t (Some (Enter 0 min_complete 0)) ≡ answered m t (pos 0)
enter_of_nothing = grind (arith, nothing_submitted)
