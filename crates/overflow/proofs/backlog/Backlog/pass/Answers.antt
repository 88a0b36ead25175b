use Rattle.overflow.proofs.Common.{refl, keeps_noted}
use Rattle.overflow.proofs.Seen.{seen_front}
use Rattle.overflow.proofs.backlog.Backlog.pass.Goals as goal

pub returns-clause-keeps : goal.returns-clause-keeps
returns-clause-keeps c = rw (← c.self.view_is) (keeps_noted _ _ _ _ _ _ _ refl c.in-Ok.ensures.ok (seen_front _ _))
