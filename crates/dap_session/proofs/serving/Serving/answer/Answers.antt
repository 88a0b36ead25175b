-- A message is answered, and its answer is written.
use Rattle.dap_session.proofs.Conversing.{step_of}
use Rattle.dap_session.proofs.serving.Serving.answer.Goals as goal

pub returns-clause-ok : goal.returns-clause-ok
returns-clause-ok g c =
    let empty = rw (← c.self.view_is) at c.requires in
    rw (← c.self.view_is) (step_of _ _ c.self.inside.outbox c.post.new.self c.flush.new.outbox _ c.in-Ok.answer _ _ _ empty c.in-Ok.ensures.ok c.in-Ok-post.ensures.posted c.in-Ok-post.ensures.ends c.in_ok-flush.ensures.cleared c.in_ok-flush.ensures.written)
