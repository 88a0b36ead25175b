use Rattle.std.proofs.Common.{◌<◌}
use Rattle.std.specs.Prelude.{IfSome}
use Rattle.sampling.specs.Samples.{SaysOnly}
use Rattle.sampling.proofs.opening.only_thread.Given as goal

abbrev pub invariant-loop-thread : goal.invariant-loop-thread
invariant-loop-thread l = record {
  only : SaysOnly l.state l.thread l.only;
  few : IfSome l.only (λ t. t < 16);
}
