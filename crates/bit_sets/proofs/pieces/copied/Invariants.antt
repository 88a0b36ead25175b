use Rattle.std.proofs.Common.{◌≡◌, ◌++◌, length}
use Rattle.bit_sets.proofs.pieces.copied.Given as goal

abbrev pub invariant-loop-left : goal.invariant-loop-left
invariant-loop-left g l = l.copy.items ++ l.left ≡ l.elements

abbrev pub decreases-loop-left : goal.decreases-loop-left
decreases-loop-left g l = length l.left
