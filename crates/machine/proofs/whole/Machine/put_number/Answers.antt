use Rattle.std.proofs.Common.{refl}
use Rattle.machine.proofs.Lifting.{seen_clock, seen_counted, seen_threads}
use Rattle.machine.proofs.whole.Machine.put_number.Goals as goal

pub returns-in-Clock-clause-put : goal.returns-in-Clock-clause-put
returns-in-Clock-clause-put c = rw (c.in-Clock.is) (seen_clock c.args.self.now _)

pub returns-in-Counted-clause-put : goal.returns-in-Counted-clause-put
returns-in-Counted-clause-put c = rw (c.in-Counted.is) (seen_counted c.args.self.now _)

pub returns-in-ProgramCounter-clause-put : goal.returns-in-ProgramCounter-clause-put
returns-in-ProgramCounter-clause-put c = rw (c.in-ProgramCounter.is) (seen_threads c.args.self.now _ _ _ refl c.put_counter.ensures.put)
