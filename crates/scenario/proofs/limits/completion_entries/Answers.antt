use Rattle.std.proofs.Common.{arith}
use Rattle.scenario.proofs.Sizes.{rounded_most}
use Rattle.scenario.proofs.limits.completion_entries.Goals as goal

pub overflow_mul-result : goal.overflow_mul-result
overflow_mul-result c = let k = rounded_most c.args.entries in omega (arith, k, c.ring_size.ensures)
