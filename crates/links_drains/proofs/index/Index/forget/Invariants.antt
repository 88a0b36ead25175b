use Rattle.links_drains.specs.Indexes.{Forgotten}
use Rattle.links_drains.proofs.index.Index.forget.Given as goal

abbrev pub invariant-loop-r : goal.invariant-loop-r
invariant-loop-r l = Forgotten l.from l.r l.initial.self l.self
