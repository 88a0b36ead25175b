use Rattle.run_log.proofs.RowLaws.{hold_all}
use Rattle.run_log.proofs.laws.rows_hold_all.Goals as goal

pub returns : goal.returns
returns c = hold_all
