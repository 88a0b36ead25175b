use Rattle.machine.proofs.Common.{◌≡◌, take, completions_of}
use Rattle.machine.proofs.whole.Machine.completions_of.Given as goal

abbrev pub invariant-loop-i : goal.invariant-loop-i
invariant-loop-i l = l.completions.items ≡ completions_of l.self.table (take l.i l.endings)
