use Rattle.std.proofs.Common.{take}
use Rattle.conclusions.specs.Conclusions.{AreGoals}
use Rattle.conclusions.proofs.sought.goals_of.Given as goal

abbrev pub invariant-loop-index : goal.invariant-loop-index
invariant-loop-index l = AreGoals l.setup (take l.index l.until) l.goals.items
