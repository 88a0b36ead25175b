use Rattle.std.proofs.Common.{◌≡◌, take}
use Rattle.scenario.proofs.setup.copy_program.Given as goal

abbrev pub invariant-loop-instruction : goal.invariant-loop-instruction
invariant-loop-instruction l = l.copies.items ≡ take l.instruction-index l.program
