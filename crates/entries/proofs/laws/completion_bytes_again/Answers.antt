use Rattle.std.proofs.Common.{sym, ◌∙◌}
use Rattle.entries.proofs.OneToOne.{completion_is}
use Rattle.entries.proofs.laws.completion_bytes_again.Goals as goal

pub returns : goal.returns
returns c = completion_is c.read.result c.write.result c.write.ensures ∙ sym (completion_is c.read.result c.args.bytes.now c.read.ensures)
