use Rattle.model_files.proofs.Setting.{set_event_count}
use Rattle.model_files.proofs.body.Body.set.Goals as goal

pub returns-in-EventCount-Number-clause-put : goal.returns-in-EventCount-Number-clause-put
returns-in-EventCount-Number-clause-put c = rw (c.in-EventFd.is, c.in-EventCount-Number.is-0, c.in-EventCount-Number.is-1) (set_event_count _ _ _)
