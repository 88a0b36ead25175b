use Rattle.std.proofs.Common.{inl, inr}
use Rattle.std.proofs.lemmas.Result.{err_from_is_err_and}
use Rattle.debug_server.proofs.Accepted.{all_accepted}
use Rattle.debug_server.proofs.tracing.trace_eagerly.Goals as goal

pub spelled-requires-clause-few : goal.spelled-requires-clause-few
spelled-requires-clause-few c = rw c.deref.ensures.value c.in_ok-events.ensures.few

pub spelled-requires-clause-transfers : goal.spelled-requires-clause-transfers
spelled-requires-clause-transfers c = rw c.deref.ensures.value (all_accepted _ _ c.in_ok-events.ensures.accepts)

pub returns-in_err-run_schedule-clause-schedule : goal.returns-in_err-run_schedule-clause-schedule
returns-in_err-run_schedule-clause-schedule c =
    let p = err_from_is_err_and c.from_residual.result c.from_residual.ensures.1 in
    rw (p.1, p.2) (λ i n e. inl (c.in_err-run_schedule.ensures.schedule i n e))

pub returns-in_err-events-clause-schedule : goal.returns-in_err-events-clause-schedule
returns-in_err-events-clause-schedule c =
    let p = err_from_is_err_and c.from_residual-in_err-events.result c.from_residual-in_err-events.ensures.1 in
    rw (p.1, p.2) (λ i n e. inr (c.in_ok-run_schedule.ensures.accepts, c.in_err-events.ensures.schedule i n e))
