use Rattle.entries.proofs.OneToOne.{entry_is}
use Rattle.traces.proofs.setup_writing.entry_bytes.Goals as goal

pub returns-clause-spelled : goal.returns-clause-spelled
returns-clause-spelled c = entry_is c.args.entry c.write.result c.write.ensures
