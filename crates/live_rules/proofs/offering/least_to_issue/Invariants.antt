use Rattle.std.proofs.Common.{◌≡◌, ℕ, ◌-◌, ◌<◌, ◌≤◌, false, length}
use Rattle.live_rules.specs.declared.offering.Action.TheVariants.{Issuing}
use Rattle.live_rules.specs.Offers.{may_do}
use Rattle.live_rules.proofs.offering.least_to_issue.Given as goal

abbrev pub invariant-rows : goal.invariant-rows
invariant-rows l = record {
  within : l.from ≤ length l.state.table;
  none : (k : ℕ) → k < l.from → may_do l.state Issuing k ≡ false;
}

abbrev pub decreases-rows : goal.decreases-rows
decreases-rows l = length l.state.table - l.from
