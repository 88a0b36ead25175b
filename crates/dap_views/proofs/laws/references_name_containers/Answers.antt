use Rattle.dap_views.proofs.Decoding.{decoded}
use Rattle.dap_views.proofs.laws.references_name_containers.Goals as goal

pub returns : goal.returns
returns c = decoded
