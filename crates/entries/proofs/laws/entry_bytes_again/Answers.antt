use Rattle.std.proofs.Common.{sym, ◌∙◌}
use Rattle.entries.proofs.OneToOne.{entry_is}
use Rattle.entries.proofs.laws.entry_bytes_again.Goals as goal

pub returns : goal.returns
returns c = entry_is c.read.result c.write.result c.write.ensures ∙ sym (entry_is c.read.result c.args.bytes.now c.read.ensures)
