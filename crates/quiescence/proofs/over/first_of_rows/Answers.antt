use Rattle.quiescence.proofs.Closed.{rest_on, rest_end}
use Rattle.quiescence.proofs.over.first_of_rows.Goals as goal

pub loop-number-preserved : goal.loop-number-preserved
loop-number-preserved c = rest_on c.args.state.now c.loop-number.from c.in-Some.number c.loop-number.invariant c.in-Some.ensures.some c.in_default-event_of.ensures.none

pub returns-clause-none : goal.returns-clause-none
returns-clause-none c = rest_end c.args.state.now c.loop-number.from c.loop-number.invariant c.in_default.ensures.none
