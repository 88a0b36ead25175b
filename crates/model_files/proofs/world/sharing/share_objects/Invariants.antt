use Rattle.std.proofs.Common.{◌≡◌, take}
use Rattle.std.specs.Prelude.{map}
use Rattle.model_files.specs.Shared.{body_of}
use Rattle.model_files.proofs.world.sharing.share_objects.Given as goal

abbrev pub invariant-loop-i : goal.invariant-loop-i
invariant-loop-i l = (l.objects ≡ l.fn.objects) × (map body_of l.shared.items ≡ take l.i l.fn.objects)
