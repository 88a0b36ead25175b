use Rattle.dap_views.proofs.Decoding.{encoded}
use Rattle.dap_views.proofs.laws.references_are_exact.Goals as goal

pub returns : goal.returns
returns c = encoded
