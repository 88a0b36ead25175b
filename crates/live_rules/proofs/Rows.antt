-- Which actions a kernel worker may apply to which requests.
use Rattle.std.proofs.Common.{◌≡◌, ℕ, Bool, true, false, refl, ◌<◌, ◌≤◌, if◌then◌else◌}
use Rattle.std.specs.Prelude.{Option, Some, None, is_none, slice_get, List, length}
use Rattle.std.specs.Option.{option_map_or}
use Rattle.std.proofs.lemmas.Option.{slice_get_within}
use Rattle.entries.specs.declared.row.Row.{Row}
use Rattle.entries.specs.declared.row.Phase.{Phase}
use Rattle.entries.specs.declared.row.Phase.TheVariants.{Queued, Issued, Ended}
use Rattle.entries.specs.declared.choice.Choice.TheVariants.{Full}
use Rattle.opcodes.specs.Opcodes.{is_timer}
use Rattle.scenario.specs.declared.event.Refusal.{Refusal}
use Rattle.scenario.specs.declared.event.Refusal.TheVariants.{NotDue}
use Rattle.links_drains.specs.Phases.{is_queued, is_issued}
use Rattle.links_drains.specs.Holding.{is_held_by}
use Rattle.links_drains.specs.Queued.{IsNextQueued, NoneQueuedFrom}
use Rattle.links_drains.specs.Units.{IsNextIssued, NoneIssuedFrom}
use Rattle.model_files.specs.Worlds.{WorldState}
use Rattle.timeouts_cancel.specs.Timers.{is_due}
use Rattle.machine.specs.declared.whole.Machine.{Machine}
use Rattle.machine.specs.Deadlines.{issued_deadline, deadline_at}
use Rattle.machine.specs.Steps.{issue_refusal, finish_refusal, expire_refusal, phase_refusal, choice_refusal}
use Rattle.live_rules.specs.declared.offering.Action.TheVariants.{Issuing, Finishing, Expiring}
use Rattle.live_rules.specs.Offers.{may_do}
use Rattle.live_rules.specs.Passing.{IsNextRow}

-- ---- What prevents an action

unissued_phase : (rows : List Row) (r : ℕ) (row : Row) (p : Phase) → row.phase ≡ p → is_queued p ≡ false → is_none (issue_refusal rows r (Some row)) ≡ false
unissued_phase rows r row Queued e h = absurd (cc)
unissued_phase rows r row Issued e h = rw e refl
unissued_phase rows r row (Ended res) e h = rw e refl

-- A request that isn't queued may not be issued.
pub unissued : (rows : List Row) (r : ℕ) (o : Option Row) → ((row : Row) → o ≡ Some row → is_queued row.phase ≡ false) → is_none (issue_refusal rows r o) ≡ false
unissued rows r None h = refl
unissued rows r (Some row) h = unissued_phase rows r row row.phase refl (h row refl)

by_phase : (p : Phase) (o : Option Refusal) → is_issued p ≡ false → is_none (phase_refusal p o) ≡ false
by_phase Queued o h = refl
by_phase Issued o h = absurd (cc)
by_phase (Ended res) o h = refl

pub unfinished : (held : ℕ → Bool) (w : WorldState) (row : Row) (b : Bool) → is_timer row.entry.opcode ≡ b → is_issued row.phase ≡ false → is_none (finish_refusal held w (Some row) Full) ≡ false
unfinished held w row true e h = rw e refl
unfinished held w row false e h = rw e (by_phase row.phase (choice_refusal held w row Full) h)

-- One that isn't issued may not finish.
pub not_finished : (held : ℕ → Bool) (w : WorldState) (o : Option Row) → ((row : Row) → o ≡ Some row → is_issued row.phase ≡ false) → is_none (finish_refusal held w o Full) ≡ false
not_finished held w None h = refl
not_finished held w (Some row) h = unfinished held w row (is_timer row.entry.opcode) refl (h row refl)

unexpired : (now : ℕ) (row : Row) (b : Bool) → is_timer row.entry.opcode ≡ b → is_issued row.phase ≡ false → is_none (expire_refusal now (Some row)) ≡ false
unexpired now row true e h = rw e (by_phase row.phase (if is_due now row then None else Some NotDue) h)
unexpired now row false e h = rw e refl

pub not_expired : (now : ℕ) (o : Option Row) → ((row : Row) → o ≡ Some row → is_issued row.phase ≡ false) → is_none (expire_refusal now o) ≡ false
not_expired now None h = refl
not_expired now (Some row) h = unexpired now row (is_timer row.entry.opcode) refl (h row refl)

-- ---- The next request

pub none_to_issue : (m : Machine) (from : ℕ) → NoneQueuedFrom m.table from → (k : ℕ) → from ≤ k → may_do m Issuing k ≡ false
none_to_issue m from none k low = unissued m.table k (slice_get m.table k) (λ row e. none k row low e)

pub none_to_finish : (m : Machine) (from : ℕ) → NoneIssuedFrom m.table from → (k : ℕ) → from ≤ k → may_do m Finishing k ≡ false
none_to_finish m from none k low = not_finished (is_held_by m.table) m.world (slice_get m.table k) (λ row e. none k row low e)

pub none_to_expire : (m : Machine) (from : ℕ) → NoneIssuedFrom m.table from → (k : ℕ) → from ≤ k → may_do m Expiring k ≡ false
none_to_expire m from none k low = not_expired m.clock (slice_get m.table k) (λ row e. none k row low e)

pub next_to_issue : (m : Machine) (from r : ℕ) → IsNextQueued m.table from r → IsNextRow (may_do m Issuing) (length m.table) from r
next_to_issue m from r next = record {
  after = next.after;
  within = slice_get_within m.table r next.row next.there;
  least = λ k low high. unissued m.table k (slice_get m.table k) (λ row e. next.least k row low high e);
}

pub next_to_finish : (m : Machine) (from r : ℕ) → IsNextIssued m.table from r → IsNextRow (may_do m Finishing) (length m.table) from r
next_to_finish m from r next = record {
  after = next.after;
  within = slice_get_within m.table r next.row next.there;
  least = λ k low high. not_finished (is_held_by m.table) m.world (slice_get m.table k) (λ row e. next.least k row low high e);
}

pub next_to_expire : (m : Machine) (from r : ℕ) → IsNextIssued m.table from r → IsNextRow (may_do m Expiring) (length m.table) from r
next_to_expire m from r next = record {
  after = next.after;
  within = slice_get_within m.table r next.row next.there;
  least = λ k low high. not_expired m.clock (slice_get m.table k) (λ row e. next.least k row low high e);
}

-- ---- Deadlines

pub no_deadline : (o : Option Row) → ((row : Row) → o ≡ Some row → is_issued row.phase ≡ false) → option_map_or issued_deadline o None ≡ None
no_deadline None h = refl
no_deadline (Some row) h = rw (h row refl) refl

-- A request that isn't issued has no deadline.
pub none_due : (rows : List Row) (from : ℕ) → NoneIssuedFrom rows from → (k : ℕ) → from ≤ k → deadline_at rows k ≡ None
none_due rows from none k low = no_deadline (slice_get rows k) (λ row e. none k row low e)

pub none_due_before : (rows : List Row) (from r : ℕ) → IsNextIssued rows from r → (k : ℕ) → from ≤ k → k < r → deadline_at rows k ≡ None
none_due_before rows from r next k low high = no_deadline (slice_get rows k) (λ row e. next.least k row low high e)
