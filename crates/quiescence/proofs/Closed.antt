-- A completed request is at rest, and so is one that refuses to be issued, to finish and to expire.
use Rattle.std.proofs.Common.{◌≡◌, ℕ, Bool, true, false, refl, subst, inl, inr, ◌⊎◌, ◌≤◌, ◌<◌, ◌+◌, ◌^◌, arith, if◌then◌else◌, List}
use Rattle.std.specs.Prelude.{◌≢◌, Option, Some, None, is_none, slice_get}
use Rattle.std.proofs.lemmas.Bool.{cases_lt}
use Rattle.entries.specs.declared.row.Row.{Row}
use Rattle.entries.specs.declared.row.Phase.{Phase}
use Rattle.entries.specs.declared.row.Phase.TheVariants.{Queued, Issued, Ended}
use Rattle.entries.specs.declared.choice.Choice.{Choice}
use Rattle.entries.specs.declared.choice.Choice.TheVariants.{Full}
use Rattle.opcodes.specs.Opcodes.{is_timer}
use Rattle.links_drains.specs.Holding.{is_held_by}
use Rattle.links_drains.specs.Phases.{is_unfinished}
use Rattle.links_drains.specs.Numbered.{IsNextWhere, NoneWhere}
use Rattle.links_drains.specs.Units.{is_open}
use Rattle.model_files.specs.Worlds.{WorldState}
use Rattle.timeouts_cancel.specs.Timers.{is_due}
use Rattle.scenario.specs.declared.event.Event.TheVariants.{Issue, Finish, Expire}
use Rattle.scenario.specs.declared.event.Refusal.{Refusal}
use Rattle.scenario.specs.declared.event.Refusal.TheVariants.{WrongPhase, NotDue}
use Rattle.machine.specs.declared.whole.Machine.{Machine}
use Rattle.machine.specs.Deadlines.{deadline_at, issued_deadline}
use Rattle.machine.specs.Steps.{refusal, start_refusal, issue_refusal, phase_refusal, choice_refusal, finish_refusal, expire_refusal}
use Rattle.std.specs.Option.{option_map_or}
use Rattle.quiescence.specs.Over.{IsAtRest, AllAtRest}
use Rattle.quiescence.proofs.InFull.{finishes_in_full}

-- ---- completed requests

start_closed : (rows : List Row) (r : ℕ) (p : Phase) → is_unfinished p ≡ false → start_refusal rows r p ≢ None
start_closed rows r Queued u h = cc
start_closed rows r Issued u h = cc
start_closed rows r (Ended res) u h = cc

phase_closed : (p : Phase) (o : Option Refusal) → is_unfinished p ≡ false → phase_refusal p o ≢ None
phase_closed Queued o u h = cc
phase_closed Issued o u h = cc
phase_closed (Ended res) o u h = cc

wrong_or : (b : Bool) (o : Option Refusal) → o ≢ None → (if b then Some WrongPhase else o) ≢ None
wrong_or true o n h = cc
wrong_or false o n h = n h

or_wrong : (b : Bool) (o : Option Refusal) → o ≢ None → (if b then o else Some WrongPhase) ≢ None
or_wrong true o n h = n h
or_wrong false o n h = cc

issue_closed : (rows : List Row) (r : ℕ) (o : Option Row) → ((row : Row) → o ≡ Some row → is_open row ≡ false) → issue_refusal rows r o ≢ None
issue_closed rows r None closed h = cc
issue_closed rows r (Some row) closed h = start_closed rows r row.phase (closed row refl) h

finish_closed : (held : ℕ → Bool) (w : WorldState) (o : Option Row) (c : Choice) → ((row : Row) → o ≡ Some row → is_open row ≡ false) → finish_refusal held w o c ≢ None
finish_closed held w None c closed h = cc
finish_closed held w (Some row) c closed h = wrong_or (is_timer row.entry.opcode) _ (phase_closed row.phase (choice_refusal held w row c) (closed row refl)) h

expire_closed : (now : ℕ) (o : Option Row) → ((row : Row) → o ≡ Some row → is_open row ≡ false) → expire_refusal now o ≢ None
expire_closed now None closed h = cc
expire_closed now (Some row) closed h = or_wrong (is_timer row.entry.opcode) _ (phase_closed row.phase (if is_due now row then None else Some NotDue) (closed row refl)) h

deadline_phase : (row : Row) (t : ℕ) (p : Phase) → row.phase ≡ p → is_unfinished p ≡ false → issued_deadline row ≢ Some t
deadline_phase row t Queued e u h = cc
deadline_phase row t Issued e u h = cc
deadline_phase row t (Ended res) e u h = let k : issued_deadline row ≡ None = rw e refl in cc

deadline_closed : (o : Option Row) (t : ℕ) → ((row : Row) → o ≡ Some row → is_open row ≡ false) → option_map_or issued_deadline o None ≢ Some t
deadline_closed None t closed h = cc
deadline_closed (Some row) t closed h = deadline_phase row t row.phase refl (closed row refl) h

pub closed_at_rest : (m : Machine) (r : ℕ) → ((row : Row) → slice_get m.table r ≡ Some row → is_open row ≡ false) → IsAtRest m r
closed_at_rest m r closed = record {
  issue = issue_closed m.table r (slice_get m.table r) closed;
  finish = λ c. finish_closed (is_held_by m.table) m.world (slice_get m.table r) c closed;
  expire = expire_closed m.clock (slice_get m.table r) closed;
  deadline = λ t h. absurd (deadline_closed (slice_get m.table r) t closed h);
}

-- ---- a request at rest

some_refused : (o : Option Refusal) → is_none o ≡ false → o ≢ None
some_refused None n h = cc
some_refused (Some x) n h = cc

pub row_at_rest : (m : Machine) (r : ℕ) → is_none (refusal m (Issue r)) ≡ false → is_none (refusal m (Finish r Full)) ≡ false → is_none (refusal m (Expire r)) ≡ false
    → ((t : ℕ) → deadline_at m.table r ≡ Some t → (t ≤ m.clock) ⊎ (2 ^ 64 ≤ t)) → IsAtRest m r
row_at_rest m r i f e t = record {
  issue = some_refused (refusal m (Issue r)) i;
  finish = λ c h. some_refused (refusal m (Finish r Full)) f (finishes_in_full m r c h);
  expire = some_refused (refusal m (Expire r)) e;
  deadline = t;
}

-- ---- all requests

pub rest_on : (m : Machine) (from r : ℕ) → ((k : ℕ) → k < from → IsAtRest m k) → IsNextWhere is_open m.table from r → IsAtRest m r → (k : ℕ) → k < r + 1 → IsAtRest m k
rest_on m from r before next here k h = elim (cases_lt k from) [
  | inl low ↦ before k low
  | inr high ↦ elim (cases_lt k r) [
    | inl less ↦ closed_at_rest m k (λ row e. next.least k row high less e)
    | inr last ↦ let same : r ≡ k = omega (arith, h, last) in subst (λ n. IsAtRest m n) same here
  ]
]

pub rest_end : (m : Machine) (from : ℕ) → ((k : ℕ) → k < from → IsAtRest m k) → NoneWhere is_open m.table from → AllAtRest m
rest_end m from before none k = elim (cases_lt k from) [
  | inl low ↦ before k low
  | inr high ↦ closed_at_rest m k (λ row e. none k row high e)
]
