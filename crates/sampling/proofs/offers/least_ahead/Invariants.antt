use Rattle.std.proofs.Common.{◌≡◌, ◌-◌, ◌≤◌, length}
use Rattle.machine.specs.Deadlines.{deadline_at}
use Rattle.sampling.specs.Offers.{if_ahead, least_value}
use Rattle.sampling.proofs.offers.least_ahead.Given as goal

abbrev pub invariant-rows : goal.invariant-rows
invariant-rows l = record {
  within : l.from ≤ length l.state.table;
  so_far : l.least ≡ least_value (λ r. if_ahead l.state.clock (deadline_at l.state.table r)) l.from;
}

abbrev pub decreases-rows : goal.decreases-rows
decreases-rows l = length l.state.table - l.from
