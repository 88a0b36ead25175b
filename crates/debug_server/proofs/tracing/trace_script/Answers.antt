use Rattle.std.proofs.lemmas.Result.{err_from_is_err_and}
use Rattle.debug_server.proofs.tracing.trace_script.Goals as goal

pub returns-in_err-trace_of-clause-schedule : goal.returns-in_err-trace_of-clause-schedule
returns-in_err-trace_of-clause-schedule c =
    let p = err_from_is_err_and c.from_residual-in_err-trace_of.result c.from_residual-in_err-trace_of.ensures.1 in
    rw (p.1, p.2) (λ i n e. (c.in_ok-script.script, c.in_ok-script.ensures.ok, c.in_err-trace_of.ensures.schedule i n e))
