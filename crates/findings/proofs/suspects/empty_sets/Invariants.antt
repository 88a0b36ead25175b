use Rattle.findings.proofs.Common.{◌≡◌, ℕ, false, length, is_marked}
use Rattle.findings.proofs.suspects.empty_sets.Given as goal

abbrev pub invariant-loop-object : goal.invariant-loop-object
invariant-loop-object l = (length l.sets.items ≡ l._object) × ((o k : ℕ) → is_marked l.sets.items o k ≡ false)
