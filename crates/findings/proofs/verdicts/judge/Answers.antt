use Rattle.findings.proofs.Common.{inr}
use Rattle.findings.proofs.verdicts.judge.Goals as goal

pub returns : goal.returns
returns c = inr c.in_ok-judge_by.ensures
