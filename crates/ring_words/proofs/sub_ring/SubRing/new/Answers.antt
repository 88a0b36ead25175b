use Rattle.std.proofs.Common.{arith}
use Rattle.ring_words.proofs.Sizes.{next_size}
use Rattle.ring_words.proofs.sub_ring.SubRing.new.Goals as goal

pub start-requires : goal.start-requires
start-requires c = next_size c.args.entries _ 12 (omega arith) (omega arith) (omega arith) c.size_for.ensures.power
