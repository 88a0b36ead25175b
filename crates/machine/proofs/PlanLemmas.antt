-- Plans of events.
use Rattle.machine.specs.declared.planning.Plan.{Plan}
use Rattle.machine.proofs.Common.{◌≡◌, ◌∙◌, ℕ, ℤ, pos, subst, false, sym, ap, cond, arith, Some, slice_get, option_map_or, Choice, Issued, Row, is_held_by, is_ended, is_cancel, is_timer, outcome_of, Outcome, Res, Effect, Does, CanDo, IsOpen, planned, after, cancelled, choice_refusal, finished, finished_as, full_refusal, outcome_refusal, refusal, Complete, Machine, Finish, answered, next_refusal, resumed, stepped, thread_refusal, Result, Ok, Err, IfOk, None, Option, Refusal, Waiting, Plans, ThreadState, Return, Stage, Step, Instruction}

-- The refusal of a Finish of an issued request that is no timer.
pub finish_of_issued : (m : Machine) (r : ℕ) (c : Choice) (row : Row) → slice_get m.table r ≡ Some row → is_timer row.entry.opcode ≡ false → row.phase ≡ Issued → refusal m (Finish r c) ≡ choice_refusal (is_held_by m.table) m.world row c
finish_of_issued = grind arith

pub finish_of_other : (m : Machine) (r : ℕ) (c : Choice) (row : Row) (o : Outcome) → slice_get m.table r ≡ Some row → is_timer row.entry.opcode ≡ false → row.phase ≡ Issued → is_cancel row.entry.opcode ≡ false → o ≡ outcome_of (is_held_by m.table) m.world row c → refusal m (Finish r c) ≡ outcome_refusal o
finish_of_other m r c row o there timer issued cancels h = finish_of_issued m r c row there timer issued ∙ ap (λ b. cond b (full_refusal c) (outcome_refusal (outcome_of (is_held_by m.table) m.world row c))) cancels ∙ ap outcome_refusal (sym h)

abbrev is_open : (m : Machine) (r : ℕ) (row : Row) → slice_get m.table r ≡ Some row → row.phase ≡ Issued → IsOpen m r
is_open m r row there issued = record { row = row; there = there; unfinished = ap is_ended issued }

pub complete_planned : (m : Machine) (r : ℕ) (c : Choice) (row : Row) (res : ℤ) (effect : Effect) → slice_get m.table r ≡ Some row → row.phase ≡ Issued → is_cancel row.entry.opcode ≡ false → outcome_of (is_held_by m.table) m.world row c ≡ Res res → Does m.world row res effect → CanDo m (Complete r res effect) × (planned m (Complete r res effect) ≡ after m (Finish r c))
complete_planned m r c row res effect there issued cancels h does = (
  (is_open m r row there issued, c, h, does),
  ap (λ o. option_map_or (λ (x : Row). finished_as m r x (Res res)) o m) there
      ∙ sym (ap (finished_as m r row) h)
      ∙ sym (ap (λ b. cond b (cancelled m r row.entry) (finished_as m r row (outcome_of (is_held_by m.table) m.world row c))) cancels)
      ∙ sym (ap (λ o. finished m r o c) there),
)

-- Why thread t, whose next instruction this is, cannot step.
pub step_refusal : (m : Machine) (t : ℕ) (x : ThreadState) (stage : Stage) (i : Instruction) → slice_get m.threads t ≡ Some x → x.stage ≡ stage → slice_get x.program x.counter ≡ Some i → refusal m (Step t) ≡ next_refusal m stage (Some i)
step_refusal m t x stage i there in_stage next =
    ap (thread_refusal m) there ∙ ap (λ s. next_refusal m s (slice_get x.program x.counter)) in_stage ∙ ap (next_refusal m stage) next

-- A thread that waits returns, unless it is refused.
pub return_planned : (m : Machine) (t n w : ℕ) (x : ThreadState) (cause : Option Refusal) (r : Result Plan Refusal) → slice_get m.threads t ≡ Some x → x.stage ≡ Waiting n w → cause ≡ refusal m (Step t) → IfOk r (λ p. (cause ≡ None) × (p ≡ Return t n)) → IfOk r (Plans m (Step t))
return_planned m t n w x cause (Err e) there in_stage same h = tt
return_planned m t n w x cause (Ok p) there in_stage same (none, is) =
    let accepted = sym same ∙ none in
    let returns : stepped m t (slice_get m.threads t) ≡ answered m t (pos n) = ap (stepped m t) there ∙ ap (λ s. resumed m t s (slice_get x.program x.counter)) in_stage in
    subst (Plans m (Step t)) (sym is) (record { accepted = accepted; can = (w, record { accepted = accepted; thread = x; there = there; in_stage = in_stage }); same = sym returns })
