use Rattle.occupancy.proofs.Common.{◌≡◌, take, map}
use Rattle.occupancy.proofs.thread_stages.stages_of.Given as goal

abbrev pub invariant-loop-thread : goal.invariant-loop-thread
invariant-loop-thread l = l.stages.items ≡ take l.thread (map (λ x. x.stage) l.state.threads)
