use Rattle.std.proofs.Common.{arith, sym}
use Rattle.watches.proofs.Landing.{value_on, value_found, value_last}
use Rattle.watches.proofs.searching.value_at.Goals as goal

pub returns-in-Some : goal.returns-in-Some
returns-in-Some c =
    value_found c.args.walker.now c.args.place c.args.moment c.loop-next.next c.record_of.result.now c.in-Some.old c.loop-next.invariant c.record_of.ensures.exact (sym c.in-Some.ensures)

pub loop-next-preserved : goal.loop-next-preserved
loop-next-preserved c =
    value_on c.args.walker.now c.args.place c.args.moment c.loop-next.next c.record_of.result.now c.loop-next.invariant c.record_of.ensures.exact (sym c.in_default.ensures)

pub returns : goal.returns
returns c =
    value_last c.args.walker.now c.args.place c.args.moment c.loop-next.next c.in_ok-last.last c.value.result c.loop-next.invariant (omega (arith, c.len-next-end.ensures.value, c.requires)) c.in_ok-last.ensures c.value.ensures.value
