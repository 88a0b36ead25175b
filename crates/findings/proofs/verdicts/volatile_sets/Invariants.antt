use Rattle.findings.proofs.Common.{◌≡◌, ◌<◌, ℕ, length, is_volatile_at, is_marked}
use Rattle.findings.proofs.verdicts.volatile_sets.Given as goal

abbrev pub invariant-loop-object : goal.invariant-loop-object
invariant-loop-object l = (length l.sets.items ≡ l.object) × ((o k : ℕ) → o < l.object → is_marked l.sets.items o k ≡ is_volatile_at l.state o k)
