use Rattle.findings.proofs.Common.{sym}
use Rattle.findings.proofs.Suspecting.{follows_nothing}
use Rattle.findings.proofs.suspects.follow_files.Goals as goal

pub returns-in-Nothing : goal.returns-in-Nothing
returns-in-Nothing c = follows_nothing _ _ _ _ _ _ _ (sym c.in-Nothing.ensures)
