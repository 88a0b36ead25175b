use Rattle.std.proofs.Common.{arith}
use Rattle.bit_sets.proofs.NextBits.{no_next_bit, least_bit}
use Rattle.bit_sets.proofs.sets.next_bit.Goals as goal

pub returns-then-high-eq0-clause-none : goal.returns-then-high-eq0-clause-none
returns-then-high-eq0-clause-none c = no_next_bit c.args.word c.args.from (omega arith) c.requires (omega arith)

pub returns-else-high-eq0-clause-some : goal.returns-else-high-eq0-clause-some
returns-else-high-eq0-clause-some c = least_bit c.args.word c.args.from (omega arith) c.requires (omega arith)
