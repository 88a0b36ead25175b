use Rattle.sampling.specs.Choosing.{SaysBest}
use Rattle.sampling.proofs.choosing.best_thread.Given as goal

abbrev pub invariant-loop-thread : goal.invariant-loop-thread
invariant-loop-thread l = SaysBest l.source l.state l.thread l.best
