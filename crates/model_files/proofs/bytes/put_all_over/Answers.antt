use Rattle.std.proofs.Common.{arith}
use Rattle.model_files.proofs.PuttingOver.{put_all}
use Rattle.model_files.proofs.bytes.put_all_over.Goals as goal

pub returns-clause-over : goal.returns-clause-over
returns-clause-over c = rw (c.overwrite.ensures.next) (put_all c.args.bytes.now c.args.olds.now c.args.start c.min-from.result c.min-n.result (omega (arith, c.min-from.ensures)) (omega (arith, c.min-n.ensures)))
