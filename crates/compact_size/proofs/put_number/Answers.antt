use Rattle.std.proofs.Common.{arith}
use Rattle.compact_size.proofs.CompactSizeLemmas.{put_small}
use Rattle.compact_size.proofs.put_number.Goals as goal

pub returns-in_ok-push : goal.returns-in_ok-push
returns-in_ok-push c = rw (c.in_ok-push.ensures.items) (put_small c.args.out.now.items c.args.number (let h = c.if-number-from.true in let e = c.from.ensures in omega arith))
