use Rattle.std.proofs.Common.{◌≡◌, map, drop}
use Rattle.serde_json.specs.View.{view}
use Rattle.script.specs.Lists.{each}
use Rattle.script.specs.Instructions.{thread_at}
use Rattle.script.proofs.Each.{with_front}
use Rattle.script.proofs.threads.read_thread_list.Given as goal

abbrev pub invariant-loop-i : goal.invariant-loop-i
invariant-loop-i l = with_front l.threads.items (each (thread_at l.size) l.i (drop l.i (map view l.items))) ≡ each (thread_at l.size) 0 (map view l.items)
