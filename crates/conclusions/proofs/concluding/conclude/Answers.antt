use Rattle.std.proofs.Common.{sym}
use Rattle.conclusions.proofs.Hits.{found_script}
use Rattle.conclusions.proofs.concluding.conclude.Goals as goal

pub returns-clause-script : goal.returns-clause-script
returns-clause-script c = found_script c.args.reporting.script.now c.args.runs.now c.args.found c.in-Some.number _ _ c.in_ok-script_with.field-0 c.in-Some.is (rw c.in-Some-2.is at c.in_ok-shown.ensures.shown) c.in_ok-script_with.ensures
