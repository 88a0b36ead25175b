use Rattle.std.proofs.Common.{◌-◌}
use Rattle.bit_sets.proofs.Reaching.{in_range}
use Rattle.bit_sets.proofs.thresholds.bound_after.Goals as goal

pub returns : goal.returns
returns c i low high = in_range c.args.each.now c.args.from c.args.end i c.minimum.result low high (c.minimum.ensures (i - c.args.from))
