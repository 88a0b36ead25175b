use Rattle.std.proofs.Common.{◌≡◌, ℕ, ◌<◌, ◌≤◌, ◌-◌, false}
use Rattle.bit_sets.specs.Difference.{in_difference}
use Rattle.bit_sets.proofs.sets.BitSet.next_in_difference.Given as goal

abbrev pub invariant-words : goal.invariant-words
invariant-words l = record {
  past : l.from ≤ l.at;
  before : (i : ℕ) → l.from ≤ i → i < l.at → in_difference l.self l.other i ≡ false;
}

abbrev pub decreases-words : goal.decreases-words
decreases-words l = 65536 - l.at
