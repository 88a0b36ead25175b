use Rattle.machine.proofs.Common.{◌-◌, offered}
use Rattle.machine.proofs.TakingWords.{Reading}
use Rattle.machine.proofs.whole.Machine.words_up_to.Given as goal

abbrev pub invariant-loop-left : goal.invariant-loop-left
invariant-loop-left l = Reading l.self.submissions.slots (offered l.self.submissions l.most) l.n l.count l.left

abbrev pub decreases-loop-left : goal.decreases-loop-left
decreases-loop-left l = l.most - l.count
