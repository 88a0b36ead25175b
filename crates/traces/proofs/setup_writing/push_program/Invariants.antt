use Rattle.std.proofs.Common.{◌≡◌, ◌++◌, length, take}
use Rattle.std.specs.List.{flat_map, AllByRecursion}
use Rattle.byteorder.specs.Endian.{little_bytes}
use Rattle.traces.specs.Limits.{HasWidths}
use Rattle.traces.specs.Setups.{instruction_bytes}
use Rattle.traces.proofs.setup_writing.push_program.Given as goal

abbrev pub invariant-loop-instruction : goal.invariant-loop-instruction
invariant-loop-instruction l =
    (l.out.items ≡ l.fn.out.items ++ (little_bytes 4 (length l.program) ++ flat_map instruction_bytes (take l.instruction-index l.program)))
    × AllByRecursion HasWidths (take l.instruction-index l.program)
