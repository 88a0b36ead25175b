use Rattle.std.proofs.Common.{◌+◌, ◌-◌, ◌≤◌, length}
use Rattle.sampling.specs.Choosing.{SaysBest}
use Rattle.sampling.proofs.choosing.with_rows.Given as goal

abbrev pub invariant-rows : goal.invariant-rows
invariant-rows l = record {
  few : l.from ≤ 65536;
  best : SaysBest l.source l.state 17 l.fn.first → SaysBest l.source l.state (17 + l.from) l.best;
}

abbrev pub decreases-rows : goal.decreases-rows
decreases-rows l = length l.state.table - l.from
