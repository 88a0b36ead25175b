use Rattle.std.proofs.Common.{◌≡◌, drop}
use Rattle.ring_words.specs.Rings.{first_not_below, sizes}
use Rattle.scenario.proofs.limits.ring_size.Given as goal

abbrev pub invariant-loop-size : goal.invariant-loop-size
invariant-loop-size l = first_not_below l.entries (drop l.size-index l.size-items) ≡ first_not_below l.entries sizes
