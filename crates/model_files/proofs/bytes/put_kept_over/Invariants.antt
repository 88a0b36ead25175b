use Rattle.std.proofs.Common.{◌+◌}
use Rattle.places.specs.Stretched.{kept_of}
use Rattle.model_files.proofs.PuttingOver.{PuttingOver}
use Rattle.model_files.proofs.bytes.put_kept_over.Given as goal

abbrev pub invariant-loop-i : goal.invariant-loop-i
invariant-loop-i l = PuttingOver l.fn.bytes l.bytes l.stretch.start (kept_of l.stretch) (l.from + l.i)
