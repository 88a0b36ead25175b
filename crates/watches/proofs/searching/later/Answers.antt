use Rattle.std.proofs.Common.{◌<◌, ◌≤◌, length, arith}
use Rattle.watches.specs.declared.stopping.Stop.TheVariants.{End}
use Rattle.watches.proofs.Finding.{the_later}
use Rattle.watches.proofs.Landing.{quiet_more, stops_there}
use Rattle.watches.proofs.searching.later.Goals as goal

pub returns-in-Some-clause-meaning : goal.returns-in-Some-clause-meaning
returns-in-Some-clause-meaning c =
    let below : c.loop-moment.moment < length c.args.walker.now.events = omega (arith, c.loop-moment-test.true, c.len-moment-end.ensures.value) in
    let low : c.args.walker.now.at ≤ c.loop-moment.moment = omega (arith, c.at-moment.ensures.value, c.loop-moment.auto.moment) in
    stops_there c.args.walker.now c.args.watches.now c.loop-moment.moment c.in-Some.stop low below (rw c.in-Some.is at c.in_ok-found.ensures.stop) c.loop-moment.invariant

pub returns-in-Some-clause-stop : goal.returns-in-Some-clause-stop
returns-in-Some-clause-stop c =
    let below : c.loop-moment.moment < length c.args.walker.now.events = omega (arith, c.loop-moment-test.true, c.len-moment-end.ensures.value) in
    let low : c.args.walker.now.at ≤ c.loop-moment.moment = omega (arith, c.at-moment.ensures.value, c.loop-moment.auto.moment) in
    the_later c.args.walker.now c.args.watches.now c.in-Some.stop
    (stops_there c.args.walker.now c.args.watches.now c.loop-moment.moment c.in-Some.stop low below (rw c.in-Some.is at c.in_ok-found.ensures.stop) c.loop-moment.invariant)

pub loop-moment-preserved : goal.loop-moment-preserved
loop-moment-preserved c =
    quiet_more c.args.walker.now c.args.watches.now c.args.walker.now.at c.loop-moment.moment c.loop-moment.invariant (rw c.in_default.is at c.in_ok-found.ensures.stop)

pub returns-clause-meaning : goal.returns-clause-meaning
returns-clause-meaning c = λ k a b. c.loop-moment.invariant k a (omega (arith, c.len-moment-end.ensures.value))

pub returns-clause-stop : goal.returns-clause-stop
returns-clause-stop c = the_later c.args.walker.now c.args.watches.now End (λ k a b. c.loop-moment.invariant k a (omega (arith, c.len-moment-end.ensures.value)))
