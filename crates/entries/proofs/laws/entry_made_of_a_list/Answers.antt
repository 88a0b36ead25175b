use Rattle.entries.proofs.OneToOne.{entry_here}
use Rattle.entries.proofs.laws.entry_made_of_a_list.Goals as goal

pub returns : goal.returns
returns c = entry_here
