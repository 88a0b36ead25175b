use Rattle.std.proofs.Common.{◌≡◌, ◌-◌, ◌≤◌, length}
use Rattle.eager_runs.proofs.EagerRuns.{Working}
use Rattle.eager_runs.proofs.eager.Eager.work.Given as goal

abbrev pub invariant-work : goal.invariant-work
invariant-work l = record {
  few : length l.self.events.items ≤ 1048576;
  plain : l.self.plain ≡ l.fn.self.plain;
  working : Working l.fn.self.state l.fn.self.next_row l.fn.self.events.items l.self.state l.self.next_row l.self.events.items;
}

abbrev pub decreases-work : goal.decreases-work
decreases-work l = 1048576 - length l.self.events.items
