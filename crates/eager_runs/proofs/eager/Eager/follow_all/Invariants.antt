use Rattle.std.proofs.Common.{◌≤◌, length}
use Rattle.eager_runs.proofs.EagerRuns.{Following}
use Rattle.eager_runs.proofs.eager.Eager.follow_all.Given as goal

abbrev pub invariant-loop-i : goal.invariant-loop-i
invariant-loop-i l = record {
  few : length l.self.events.items ≤ 1048576;
  following : Following l.fn.self.plain l.fn.self.state l.fn.self.events.items l.schedule l.i l.self.plain l.self.state l.self.events.items;
}
