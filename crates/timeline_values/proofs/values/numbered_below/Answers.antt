use Rattle.std.proofs.Common.{arith}
use Rattle.machine.specs.Whole.{view}
use Rattle.timeline_values.proofs.Valued.{values_stay}
use Rattle.timeline_values.proofs.values.numbered_below.Goals as goal

pub returns : goal.returns
returns c s = values_stay s (view c.args.state.now) c.numbered_below.result c.min.result c.args.count c.numbered_below.ensures.absent (omega arith)
