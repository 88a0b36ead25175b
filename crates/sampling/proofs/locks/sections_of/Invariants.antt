use Rattle.std.proofs.Common.{◌≡◌, ◌++◌, drop}
use Rattle.sampling.specs.Locks.{sections, sections_from}
use Rattle.sampling.proofs.locks.sections_of.Given as goal

abbrev pub invariant-loop-counter : goal.invariant-loop-counter
invariant-loop-counter l = l.inside.items ++ sections_from l.written (drop l.counter l.program) ≡ sections l.program
