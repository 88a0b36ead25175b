use Rattle.std.proofs.Common.{◌≡◌, ◌+◌, drop}
use Rattle.model_files.specs.Holders.{is_held}
use Rattle.model_files.specs.Ends.{some_keeps}
use Rattle.model_files.proofs.ends.some_keeps.Given as goal

abbrev pub invariant-loop-i : goal.invariant-loop-i
invariant-loop-i l = some_keeps (is_held l.held) l.object l.end (l.i + 3) (drop l.i l.descriptors) ≡ some_keeps (is_held l.held) l.object l.end 3 l.descriptors
