use Rattle.std.proofs.Common.{◌≡◌, ◌+◌, length, arith}
use Rattle.std.proofs.lemmas.Bool.Decides.{when_true, when_false}
use Rattle.watches.specs.Stops.{seen}
use Rattle.watches.proofs.Naming.{none_met_more, none_met_at, none_met_whole}
use Rattle.watches.proofs.searching.meets_any.Goals as goal

pub returns-then-is_met-clause-met : goal.returns-then-is_met-clause-met
returns-then-is_met-clause-met c = λ n.
    let old = seen c.args.walker.now c.args.moment in
    let new = seen c.args.walker.now (c.args.moment + 1) in
    when_true _ _ c.if-is_met.true c.in_ok-is_met.ensures (none_met_at old new c.args.breaks.now c.loop-stop.stop-index _ c.loop-stop-test.true n)

pub loop-stop-preserved : goal.loop-stop-preserved
loop-stop-preserved c =
    let old = seen c.args.walker.now c.args.moment in
    let new = seen c.args.walker.now (c.args.moment + 1) in
    none_met_more old new c.args.breaks.now c.loop-stop.stop-index _ c.loop-stop-test.true c.loop-stop.invariant (when_false _ _ c.if-is_met.false c.in_ok-is_met.ensures)

pub returns-clause-met : goal.returns-clause-met
returns-clause-met c =
    let whole : c.loop-stop.stop-index ≡ length c.args.breaks.now = omega arith in
    none_met_whole (seen c.args.walker.now c.args.moment) (seen c.args.walker.now (c.args.moment + 1)) c.args.breaks.now c.loop-stop.stop-index whole c.loop-stop.invariant
