use Rattle.std.proofs.Common.{◌≡◌, length}
use Rattle.script_check.proofs.further.Faults.note_pieces.Given as goal

abbrev pub invariant-loop-i : goal.invariant-loop-i
invariant-loop-i l = length l.memory.items ≡ 65536
