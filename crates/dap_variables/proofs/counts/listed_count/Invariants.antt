use Rattle.std.proofs.Common.{◌≤◌, ◌-◌}
use Rattle.dap_variables.specs.Children.{listed_count}
use Rattle.dap_variables.proofs.counts.listed_count.Given as goal

abbrev pub invariant-loop-low : goal.invariant-loop-low
invariant-loop-low l = record {
  low : l.low ≤ listed_count l.state l.list;
  high : listed_count l.state l.list ≤ l.high;
  most : l.high ≤ 65536;
}

abbrev pub decreases-loop-low : goal.decreases-loop-low
decreases-loop-low l = l.high - l.low
