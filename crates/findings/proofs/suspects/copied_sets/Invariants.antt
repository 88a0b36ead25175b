use Rattle.findings.proofs.Common.{◌≡◌, take}
use Rattle.findings.proofs.suspects.copied_sets.Given as goal

abbrev pub invariant-loop-set : goal.invariant-loop-set
invariant-loop-set l = l.copied.items ≡ take l.set-index l.sets
