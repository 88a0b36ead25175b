use Rattle.std.proofs.Common.{arith}
use Rattle.search_rounds.proofs.Joining.{zeros}
use Rattle.search_rounds.proofs.outcome.Totals.new.Goals as goal

pub invariant_of-result : goal.invariant_of-result
invariant_of-result c = record { bounded = record { all_events = omega arith; each_kind = λ k. omega (arith, zeros 64 k) } }
