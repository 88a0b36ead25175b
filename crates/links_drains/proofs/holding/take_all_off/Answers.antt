use Rattle.std.proofs.Common.{arith}
use Rattle.links_drains.proofs.Tallying.{all_gone, next_counted, next_gone}
use Rattle.links_drains.proofs.holding.take_all_off.Goals as goal

pub take_off-requires : goal.take_off-requires
take_off-requires c = λ fd t. next_counted c.args.rows.now c.args.n c.loop-r.r c.index.result.now fd _ _ (omega arith) c.index.ensures (c.requires fd) (c.loop-r.invariant fd) t

pub loop-r-preserved : goal.loop-r-preserved
loop-r-preserved c = λ fd. next_gone c.args.rows.now c.args.n c.loop-r.r c.index.result.now fd _ _ _ (omega arith) c.index.ensures (c.loop-r.invariant fd) (c.take_off.ensures fd)

pub returns : goal.returns
returns c = λ fd. all_gone c.args.rows.now c.args.n c.loop-r.r fd _ _ (omega arith) (c.loop-r.invariant fd)
