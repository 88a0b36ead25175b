use Rattle.std.proofs.Common.{◌≡◌, map, drop}
use Rattle.serde_json.specs.View.{view}
use Rattle.script.specs.Lists.{each}
use Rattle.script.specs.Objects.{descriptor_at}
use Rattle.script.proofs.Each.{with_front}
use Rattle.script.proofs.descriptor.read_descriptors.Given as goal

abbrev pub invariant-loop-i : goal.invariant-loop-i
invariant-loop-i l = with_front l.descriptors.items (each (descriptor_at l.objects) l.i (drop l.i (map view l.items))) ≡ each (descriptor_at l.objects) 0 (map view l.items)
