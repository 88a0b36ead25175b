use Rattle.std.proofs.Common.{◌≡◌, ℕ, ◌-◌, ◌<◌, ◌≤◌, false, length}
use Rattle.machine.specs.Deadlines.{deadline_at}
use Rattle.live_rules.specs.declared.offering.Action.TheVariants.{Finishing, Expiring}
use Rattle.live_rules.specs.Least.{least, least_value}
use Rattle.live_rules.specs.Offers.{may_do}
use Rattle.live_rules.proofs.offering.ends.Given as goal

abbrev pub invariant-rows : goal.invariant-rows
invariant-rows l = record {
  within : l.from ≤ length l.state.table;
  none : (k : ℕ) → k < l.from → may_do l.state Finishing k ≡ false;
  due : l.due ≡ least (may_do l.state Expiring) l.from;
  so_far : l.least ≡ least_value (deadline_at l.state.table) l.from;
}

abbrev pub decreases-rows : goal.decreases-rows
decreases-rows l = length l.state.table - l.from
