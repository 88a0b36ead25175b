use Rattle.std.proofs.Common.{refl}
use Rattle.bit_sets.proofs.Numbers.{summed_none}
use Rattle.bit_sets.proofs.sets.BitSet.new.Goals as goal

pub invariant_of-result : goal.invariant_of-result
invariant_of-result c = rw c.new.ensures.items (summed_none 0 refl)
