use Rattle.std.proofs.Common.{sym, ◌∙◌}
use Rattle.entries.proofs.OneToOne.{entry_is}
use Rattle.entries.proofs.laws.one_list_of_an_entry.Goals as goal

pub returns : goal.returns
returns c = λ e a b g h. entry_is e a g ∙ sym (entry_is e b h)
