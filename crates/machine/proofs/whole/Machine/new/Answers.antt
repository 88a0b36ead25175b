use Rattle.std.proofs.Common.{rules}
use Rattle.machine.proofs.StartLemmas.{accepted, objects_fit}
use Rattle.machine.proofs.whole.Machine.new.Goals as goal

pub new-requires-4-clause-files : goal.new-requires-4-clause-files
new-requires-4-clause-files c i o h = objects_fit c.args.setup.now (accepted c.args.setup.now c.requires) i o (rw c.as_slice-2.ensures at h)

pub returns-clause-start : goal.returns-clause-start
returns-clause-start c = search rules
