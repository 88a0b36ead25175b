use Rattle.machine.proofs.ThreadLemmas.{updated_then}
use Rattle.machine.proofs.threads.Threads.deliver.Goals as goal

pub returns-clause-ok : goal.returns-clause-ok
returns-clause-ok c = rw (c.in_ok-advance.ensures.ok, updated_then _ _ c.args.self.now c.args.t) at c.set_got.ensures.ok
