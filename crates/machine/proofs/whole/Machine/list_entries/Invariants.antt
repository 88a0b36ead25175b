use Rattle.machine.proofs.Common.{◌≡◌, take, entries_at, sub_list}
use Rattle.machine.proofs.whole.Machine.list_entries.Given as goal

abbrev pub invariant-loop-i : goal.invariant-loop-i
invariant-loop-i l = l.entries.items ≡ entries_at l.self.submissions.slots (take l.i (sub_list l.self.submissions))
