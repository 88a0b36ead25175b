use Rattle.std.proofs.Common.{◌≡◌, take}
use Rattle.std.specs.Prelude.{map}
use Rattle.model_files.specs.Worlds.{descriptor_start}
use Rattle.model_files.proofs.start.start_descriptors.Given as goal

abbrev pub invariant-loop-descriptor : goal.invariant-loop-descriptor
invariant-loop-descriptor l = l.all.items ≡ map (descriptor_start l.objects) (take l.descriptor-index l.descriptors)
