use Rattle.std.proofs.Common.{sym, subst}
use Rattle.entries.specs.Layout.{EntryLayout}
use Rattle.entries.proofs.OneToOne.{entry_is}
use Rattle.entries.proofs.Writing.{entry_laid}
use Rattle.entries.proofs.laws.entry_spelled.Goals as goal

pub returns : goal.returns
returns c = λ e bytes n. (entry_is e bytes, λ h. subst (EntryLayout e) (sym h) (entry_laid e n))
