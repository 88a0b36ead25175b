use Rattle.entries.proofs.OneToOne.{same_completion}
use Rattle.entries.proofs.laws.one_completion_of_a_list.Goals as goal

pub returns : goal.returns
returns c = same_completion
