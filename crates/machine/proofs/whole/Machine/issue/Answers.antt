use Rattle.std.proofs.Common.{◌≡◌, sym, ◌∙◌, ap, subst, true, false, ℕ, ◌+◌, arith, OnOk, Some}
use Rattle.machine.proofs.Common.{slice_get, option_map_or, Row, updated, Queued, is_ended, is_unfinished, is_guard_of, started, Machine, IsTime, WellFormed}
use Rattle.machine.proofs.{EnterLemmas.can_start, EnterLemmas.issued_with_guard, CascadedRows.direct_one, FormedMachines.mostly, GuardLemmas.apart, GuardLemmas.guard_is_guard_of, GuardLemmas.same_row, GuardLemmas.guards_linked, GuardLemmas.unfinished_queued}
use Rattle.machine.proofs.whole.Machine.issue.Goals as goal

pub cascade-requires-clause-direct : goal.cascade-requires-clause-direct
cascade-requires-clause-direct c = let x = can_start c.args.self.now c.args.r c.requires.accepted in direct_one c.args.self.now.table c.args.r _ x.row x.there (ap is_ended x.queued)

pub cascade-requires-clause-guards : goal.cascade-requires-clause-guards
cascade-requires-clause-guards c = guards_linked c.args.self.now.table c.requires.formed.guards

pub cascade-requires-clause-mostly : goal.cascade-requires-clause-mostly
cascade-requires-clause-mostly c = mostly c.args.self.now c.requires.formed

-- An unfinished request's time is within bounds.
row_time : (m : Machine) (r : ℕ) → WellFormed m → (x : Row) → slice_get m.table r ≡ Some x → x.phase ≡ Queued → (y : Row) → slice_get m.table r ≡ Some y → IsTime y.time
row_time m r formed x there queued y h =
    (formed.rows r y h).time (ap (λ (z : Row). is_unfinished z.phase) (same_row y x (sym h ∙ there)) ∙ ap is_unfinished queued)

pub start-requires-clause-time : goal.start-requires-clause-time
start-requires-clause-time c =
    let x = can_start c.args.self.now c.args.r c.requires.accepted in
    row_time c.args.self.now c.args.r c.requires.formed x.row x.there x.queued

-- The next request doesn't change.
next_same : (m n : Machine) (r : ℕ) → n ≡ record m { table = updated (started m.clock m.counted) m.table r } → slice_get n.table (r + 1) ≡ slice_get m.table (r + 1)
next_same m n r h = ap (λ (x : Machine). slice_get x.table (r + 1)) h ∙ apart (started m.clock m.counted) m.table r (r + 1) (λ o. absurd (omega (arith, o)))

pub start-requires-then-has_guard-clause-time : goal.start-requires-then-has_guard-clause-time
start-requires-then-has_guard-clause-time c = λ y h.
    let m = c.args.self.now in
    let same = next_same m c.start.new.self c.args.r c.in_ok-start.ensures.ok in
    let guards : is_guard_of c.args.r y ≡ true = sym (c.if-has_guard.ensures.value ∙ ap (λ o. option_map_or (is_guard_of c.args.r) o false) h) in
    let guard = guard_is_guard_of c.args.r y guards in
    (c.requires.formed.rows (c.args.r + 1) y (sym same ∙ h)).time (unfinished_queued y.phase guard.queued)

pub returns-then-has_guard-clause-ok : goal.returns-then-has_guard-clause-ok
returns-then-has_guard-clause-ok c =
    let m : Machine = c.args.self.now in
    let same = next_same m c.start.new.self c.args.r c.in_ok-start.ensures.ok in
    let guards : option_map_or (is_guard_of c.args.r) (slice_get m.table (c.args.r + 1)) false ≡ true = sym (c.if-has_guard.ensures.value ∙ ap (λ o. option_map_or (is_guard_of c.args.r) o false) same) in
    let its_guard = issued_with_guard m c.args.r c.row_ref-row.result.now true c.requires.formed.guards c.row_ref-row.ensures (sym c.lacks_descriptor.ensures ∙ c.if-lacks_descriptor.false) guards in
    subst (λ (n : Machine). OnOk c.start-then-has_guard.result (c.start-then-has_guard.new.self ≡ n)) (ap (λ (s : Machine). record s { table = updated (started s.clock s.counted) s.table (c.args.r + 1) }) c.in_ok-start.ensures.ok ∙ its_guard) c.start-then-has_guard.ensures.ok

pub returns-clause-ok : goal.returns-clause-ok
returns-clause-ok c =
    let m : Machine = c.args.self.now in
    let same = next_same m c.start.new.self c.args.r c.in_ok-start.ensures.ok in
    let none : option_map_or (is_guard_of c.args.r) (slice_get m.table (c.args.r + 1)) false ≡ false = sym (c.if-has_guard.ensures.value ∙ ap (λ o. option_map_or (is_guard_of c.args.r) o false) same) in
    c.in_ok-start.ensures.ok ∙ issued_with_guard m c.args.r c.row_ref-row.result.now false c.requires.formed.guards c.row_ref-row.ensures (sym c.lacks_descriptor.ensures ∙ c.if-lacks_descriptor.false) none
