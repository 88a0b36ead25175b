use Rattle.std.proofs.Common.{arith}
use Rattle.traces.proofs.Trimming.{entries_most}
use Rattle.traces.proofs.setup_writing.completion_size.Goals as goal

pub overflow_mul-result : goal.overflow_mul-result
overflow_mul-result c = omega (arith, entries_most c.args.entries c.requires.entries, c.ring_size.ensures)
