use Rattle.debug_server.proofs.Again.{start_again}
use Rattle.debug_server.proofs.laws.traces_keep_the_start.Goals as goal

pub returns : goal.returns
returns c = start_again
