use Rattle.timeouts_cancel.proofs.Common.{◌-◌, Passed}
use Rattle.timeouts_cancel.specs.declared.matching.Key.TheVariants.{Fd}
use Rattle.timeouts_cancel.proofs.matching.next_with_descriptor.Given as goal

abbrev pub invariant-loop-r : goal.invariant-loop-r
invariant-loop-r l = Passed l.table (Fd l.number) l.me l.from l.at

abbrev pub decreases-loop-r : goal.decreases-loop-r
decreases-loop-r l = 65536 - l.at
