use Rattle.std.proofs.Common.{◌≡◌, ◌≤◌, ◌-◌, ◌++◌, length, take, drop}
use Rattle.shared_pages.proofs.pieces.copy_over.Given as goal

abbrev pub invariant-loop-at : goal.invariant-loop-at
invariant-loop-at g l = record { shown : l.elements ≡ take l.at l.others ++ drop l.at l.initial.elements; within : l.at ≤ length l.others }

abbrev pub decreases-loop-at : goal.decreases-loop-at
decreases-loop-at g l = length l.others - l.at
