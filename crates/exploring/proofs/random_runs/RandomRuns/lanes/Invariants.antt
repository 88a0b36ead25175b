use Rattle.std.proofs.Common.{◌≡◌}
use Rattle.std.specs.Prelude.{All, vec_len}
use Rattle.exploring.specs.RandomRuns.{IsReady}
use Rattle.exploring.proofs.random_runs.RandomRuns.lanes.Given as goal

abbrev pub invariant-loop-index : goal.invariant-loop-index
invariant-loop-index l = record { len : vec_len l.lanes ≡ l._index; ready : All (λ lane. IsReady l.self lane.worker) l.lanes.items }
