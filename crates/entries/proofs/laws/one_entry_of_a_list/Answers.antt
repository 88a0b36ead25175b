use Rattle.entries.proofs.OneToOne.{same_entry}
use Rattle.entries.proofs.laws.one_entry_of_a_list.Goals as goal

pub returns : goal.returns
returns c = same_entry
