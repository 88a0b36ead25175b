use Rattle.std.proofs.Common.{◌≡◌, ◌++◌, length, take}
use Rattle.std.specs.List.{flat_map, AllByRecursion}
use Rattle.byteorder.specs.Endian.{little_bytes}
use Rattle.traces.specs.Limits.{HasWidths}
use Rattle.traces.specs.Setups.{program_bytes}
use Rattle.traces.proofs.setup_writing.push_threads.Given as goal

abbrev pub invariant-loop-program : goal.invariant-loop-program
invariant-loop-program l =
    (l.out.items ≡ l.fn.out.items ++ (little_bytes 4 (length l.threads) ++ flat_map program_bytes (take l.program-index l.threads)))
    × AllByRecursion (AllByRecursion HasWidths) (take l.program-index l.threads)
