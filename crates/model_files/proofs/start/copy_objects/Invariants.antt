use Rattle.std.proofs.Common.{◌≡◌, take}
use Rattle.model_files.proofs.start.copy_objects.Given as goal

abbrev pub invariant-loop-body : goal.invariant-loop-body
invariant-loop-body l = l.copies.items ≡ take l.body-index l.objects
