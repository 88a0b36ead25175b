use Rattle.std.proofs.Common.{◌≡◌, ◌++◌, length, take}
use Rattle.std.specs.List.{flat_map}
use Rattle.byteorder.specs.Endian.{little_bytes}
use Rattle.traces.specs.Setups.{descriptor_bytes}
use Rattle.traces.proofs.setup_writing.push_descriptors.Given as goal

abbrev pub invariant-loop-descriptor : goal.invariant-loop-descriptor
invariant-loop-descriptor l =
    l.out.items ≡ l.fn.out.items ++ (little_bytes 4 (length l.descriptors) ++ flat_map descriptor_bytes (take l.descriptor-index l.descriptors))
