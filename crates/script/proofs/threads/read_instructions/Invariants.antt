use Rattle.std.proofs.Common.{◌≡◌, map, drop}
use Rattle.serde_json.specs.View.{view}
use Rattle.script.specs.Lists.{each}
use Rattle.script.specs.Instructions.{instruction_at}
use Rattle.script.proofs.Each.{with_front}
use Rattle.script.proofs.threads.read_instructions.Given as goal

abbrev pub invariant-loop-i : goal.invariant-loop-i
invariant-loop-i l = with_front l.instructions.items (each (instruction_at l.size l.thread) l.i (drop l.i (map view l.items))) ≡ each (instruction_at l.size l.thread) 0 (map view l.items)
