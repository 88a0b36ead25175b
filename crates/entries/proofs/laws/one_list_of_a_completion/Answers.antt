use Rattle.std.proofs.Common.{sym, ◌∙◌}
use Rattle.entries.proofs.OneToOne.{completion_is}
use Rattle.entries.proofs.laws.one_list_of_a_completion.Goals as goal

pub returns : goal.returns
returns c = λ e a b g h. completion_is e a g ∙ sym (completion_is e b h)
