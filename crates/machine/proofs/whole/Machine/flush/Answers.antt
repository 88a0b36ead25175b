use Rattle.std.proofs.Common.{arith}
use Rattle.machine.proofs.EnterLemmas.{backlog_most}
use Rattle.machine.proofs.whole.Machine.flush.Goals as goal

pub flush-requires-clause-most : goal.flush-requires-clause-most
flush-requires-clause-most c = let a = backlog_most c.args.self.now c.requires.formed in let b = c.requires.formed.mostly.table.few in omega (arith, a, b)
