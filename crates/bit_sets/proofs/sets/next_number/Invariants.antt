use Rattle.std.proofs.Common.{◌≡◌, ℕ, ◌*◌, ◌<◌, ◌≤◌, false}
use Rattle.bit_sets.specs.Sets.{has}
use Rattle.bit_sets.proofs.sets.next_number.Given as goal

abbrev pub invariant-words : goal.invariant-words
invariant-words l = (i : ℕ) → l.from ≤ i → i < l.at * 64 → has l.words i ≡ false
