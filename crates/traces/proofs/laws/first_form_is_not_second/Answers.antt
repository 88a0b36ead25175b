use Rattle.traces.proofs.SecondForm.{second_of_first, second_faults}
use Rattle.traces.proofs.laws.first_form_is_not_second.Goals as goal

pub returns : goal.returns
returns c = record { wrong = second_faults; only = second_of_first }
