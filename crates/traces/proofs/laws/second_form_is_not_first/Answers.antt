use Rattle.traces.proofs.SecondForm.{first_of_second, not_first}
use Rattle.traces.proofs.laws.second_form_is_not_first.Goals as goal

pub returns : goal.returns
returns c = record { wrong = not_first; only = first_of_second }
