use Rattle.std.proofs.lemmas.Result.{err_from_is_err_and}
use Rattle.debug_server.proofs.tracing.trace_eager.Goals as goal

pub returns-in_err-trace_eagerly-clause-schedule : goal.returns-in_err-trace_eagerly-clause-schedule
returns-in_err-trace_eagerly-clause-schedule c =
    let p = err_from_is_err_and c.from_residual-in_err-trace_eagerly.result c.from_residual-in_err-trace_eagerly.ensures.1 in
    rw (p.1, p.2) (λ i n e. (c.in_ok-script.script, c.in_ok-script.ensures.ok, c.in_err-trace_eagerly.ensures.schedule i n e))
