use Rattle.model_files.specs.Differing.{Alike}
use Rattle.model_files.proofs.differing.first_difference.Given as goal

abbrev pub invariant-loop-at : goal.invariant-loop-at
invariant-loop-at l = Alike l.old l.others l.done l.at
