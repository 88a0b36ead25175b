use Rattle.std.proofs.Common.{◌≡◌, ◌++◌, length, take}
use Rattle.std.specs.List.{flat_map}
use Rattle.byteorder.specs.Endian.{little_bytes}
use Rattle.traces.specs.Setups.{object_bytes}
use Rattle.traces.proofs.setup_writing.push_objects.Given as goal

abbrev pub invariant-loop-object : goal.invariant-loop-object
invariant-loop-object l =
    l.out.items ≡ l.fn.out.items ++ (little_bytes 4 (length l.objects) ++ flat_map object_bytes (take l.object-index l.objects))
