use Rattle.std.proofs.Common.{rules}
use Rattle.rewriting.proofs.trace.with_trace.Goals as goal

pub returns-in_err-events-clause-err : goal.returns-in_err-events-clause-err
returns-in_err-events-clause-err c =
    let at = c.in_err-events.ensures.err c.args.text.now in
    search rules
