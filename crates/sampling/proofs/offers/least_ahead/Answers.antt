use Rattle.std.proofs.Common.{arith}
use Rattle.sampling.proofs.Deadlines.{least_on, least_end, row_within}
use Rattle.sampling.proofs.offers.least_ahead.Goals as goal

pub rows-preserved : goal.rows-preserved
rows-preserved c =
    let within = row_within c.args.state.now c.rows.from c.in-Some.r c.in-Some.ensures.some in
    record {
      within = omega (arith, within);
      so_far = least_on c.args.state.now c.rows.from c.in-Some.r c.clock-clock.result c.rows.least c.deadline.result c.if_ahead.result c.smaller_of-least.result c.in-Some.ensures.some c.clock-clock.ensures.value c.deadline.ensures c.if_ahead.ensures c.smaller_of-least.ensures c.rows.invariant.so_far;
    }

pub rows-smaller : goal.rows-smaller
rows-smaller c =
    let within = row_within c.args.state.now c.rows.from c.in-Some.r c.in-Some.ensures.some in
    let after = c.in-Some.ensures.some.after in
    omega (arith, within, after)

pub returns : goal.returns
returns c = least_end c.args.state.now c.rows.from c.rows.least c.rows.invariant.within c.in_default.ensures.none c.rows.invariant.so_far
