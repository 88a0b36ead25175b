-- A message, and those after it.
use Rattle.std.proofs.Common.{length, take, drop, ◌-◌}
use Rattle.dap_frames.specs.Views.{contents}
use Rattle.dap_session.proofs.Conversing.{contents_first, converse_rest}
use Rattle.dap_session.proofs.serving.Serving.+answer_all.Goals as goal

pub returns-else-branch-clause-ok : goal.returns-else-branch-clause-ok
returns-else-branch-clause-ok g t c =
    let held = g.W.Write.contents in
    let all = c.args.bodies.now in
    let before = c.args.self.now in
    let between = c.answer.new.self in
    let after = c.answer_all.new.self in
    let step = rw c.if-branch.false at c.in_ok-answer-in-len1-up.ensures.ok in
    let cut = contents_first all c.body-item.result c.as_slice.result.now c.in-len1-up.len_at_least c.body-item.is c.as_slice.ensures.value in
    converse_rest c.answer_all.result before.adapter between.adapter after.adapter before.outbox.next between.outbox.next after.outbox.next c.as_slice.result.now (contents (take (length all - 1) (drop 1 all))) (contents all) (held c.args.writer.now) (held c.answer.new.writer) (held c.answer_all.new.writer) cut step c.answer_all.ensures.ok
