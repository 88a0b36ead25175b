use Rattle.std.proofs.Common.{◌≡◌, take}
use Rattle.std.specs.Prelude.{map}
use Rattle.model_files.specs.Shared.{body_of}
use Rattle.model_files.proofs.world.sharing.restore_objects.Given as goal

abbrev pub invariant-loop-body : goal.invariant-loop-body
invariant-loop-body l = l.objects.items ≡ map body_of (take l.body-index l.shared)
