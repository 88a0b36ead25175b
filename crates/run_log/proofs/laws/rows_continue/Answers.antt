use Rattle.run_log.proofs.RowLaws.{continues}
use Rattle.run_log.proofs.laws.rows_continue.Goals as goal

pub returns : goal.returns
returns c = continues
