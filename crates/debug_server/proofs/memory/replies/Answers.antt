use Rattle.debug_server.specs.Schedules.{state_over}
use Rattle.debug_server.proofs.Alone.{replied}
use Rattle.debug_server.proofs.memory.replies.Goals as goal

pub returns-clause-ok : goal.returns-clause-ok
returns-clause-ok c =
    let o = c.in_ok-walk.ensures.ok in
    let w = o.2 in
    (o.0, o.1, w.runs, replied (state_over o.0.setup o.0.schedule) w.next c.args.input.now _ _ _ w.answers w.quits c.new-out.ensures.items w.unanswered w.served)
