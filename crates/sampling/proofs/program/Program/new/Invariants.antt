use Rattle.std.proofs.Common.{◌≡◌, map, take}
use Rattle.sampling.specs.Locks.{sections}
use Rattle.sampling.proofs.program.Program.new.Given as goal

abbrev pub invariant-loop-program : goal.invariant-loop-program
invariant-loop-program l = l.sections.items ≡ map sections (take l.program-index l.setup.threads)
