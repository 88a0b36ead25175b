use Rattle.std.proofs.Common.{◌≡◌, [], map, drop, length}
use Rattle.serde_json.specs.View.{view}
use Rattle.script.specs.Lists.{folded}
use Rattle.script.specs.Objects.{object_at}
use Rattle.script.proofs.object.read_object_list.Given as goal

abbrev pub invariant-loop-i : goal.invariant-loop-i
invariant-loop-i l = (folded object_at l.objects l.i (drop l.i (map view l.items)) ≡ folded object_at [] 0 (map view l.items)) × (length l.objects ≡ l.i)
