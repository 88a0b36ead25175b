use Rattle.dap_views.proofs.ShownValues.{shown_values}
use Rattle.dap_views.proofs.laws.values_are_shown.Goals as goal

pub returns : goal.returns
returns c = shown_values
