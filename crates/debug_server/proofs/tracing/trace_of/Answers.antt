use Rattle.std.proofs.Common.{arith}
use Rattle.debug_server.proofs.Moving.{all_move}
use Rattle.debug_server.proofs.tracing.trace_of.Goals as goal

pub spelled-requires-clause-few : goal.spelled-requires-clause-few
spelled-requires-clause-few c = rw c.schedule.ensures.value (omega (arith, c.schedule.ensures.kept.events))

pub spelled-requires-clause-transfers : goal.spelled-requires-clause-transfers
spelled-requires-clause-transfers c = rw c.schedule.ensures.value (all_move c.args.script.now.schedule c.schedule.ensures.kept.transfers)
