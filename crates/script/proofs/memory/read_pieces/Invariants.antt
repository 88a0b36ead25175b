use Rattle.std.proofs.Common.{◌≡◌, map, drop, length}
use Rattle.serde_json.specs.View.{view}
use Rattle.script.specs.Lists.{folded}
use Rattle.script.specs.Memory.{piece_at, zeros}
use Rattle.script.proofs.memory.read_pieces.Given as goal

abbrev pub invariant-loop-i : goal.invariant-loop-i
invariant-loop-i l = (folded piece_at l.memory.items l.i (drop l.i (map view l.items)) ≡ folded piece_at (zeros 65536) 0 (map view l.items)) × (length l.memory.items ≡ 65536)
