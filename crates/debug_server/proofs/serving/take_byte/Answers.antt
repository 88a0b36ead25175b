use Rattle.std.proofs.Common.{◌≡◌, ◌==◌, false, rules}
use Rattle.std.proofs.lemmas.Bool.Decides.{nat_tests}
use Rattle.std.proofs.lemmas.Result.{err_from_is_err_and}
use Rattle.debug_server.proofs.Asking.{lent_gave, byte_by, ended_by, cut_by, unasked_by}
use Rattle.debug_server.proofs.serving.take_byte.Goals as goal

pub returns-then-byte-ne10-clause-ok : goal.returns-then-byte-ne10-clause-ok
returns-then-byte-ne10-clause-ok g c =
    let other : (c.args.byte == 10) ≡ false = search (rules, nat_tests) in
    byte_by _ _ c.args.visitor.now c.args.line.now c.push.new.self c.args.byte (g.W.Write.contents c.args.writer.now) c.push.ensures.pending other c.push.ensures.grown

pub returns-in_err-answer-clause-err : goal.returns-in_err-answer-clause-err
returns-in_err-answer-clause-err g c =
    let p = err_from_is_err_and c.from_residual.result c.from_residual.ensures.1 in
    rw (p.1, p.2) (unasked_by _ _ _ c.ask.new.source _ c.args.visitor.now c.args.line.now c.as_slice-text.result.now c.args.byte _
    c.as_slice-text.ensures.pending (search (rules, nat_tests)) c.as_slice-text.ensures.value c.in_err-answer.ensures.err.0 c.in_err-answer.ensures.err.1 c.in_err-answer.ensures.err.2)

pub returns-in_err-quits-clause-err : goal.returns-in_err-quits-clause-err
returns-in_err-quits-clause-err g c =
    let p = err_from_is_err_and c.from_residual-in_err-quits.result c.from_residual-in_err-quits.ensures.1 in
    rw (p.1, p.2) (cut_by _ _ _ c.ask.new.source _ c.args.visitor.now c.args.line.now c.as_slice-text.result.now c.args.byte _ (g.W.Write.contents c.args.writer.now) (g.W.Write.contents c.answer_line.new.writer)
    c.as_slice-text.ensures.pending (search (rules, nat_tests)) c.as_slice-text.ensures.value (lent_gave _ _ _ _ _ _ c.lent.ensures c.in_ok-answer.ensures.ok) c.in_err-quits.ensures.err)

pub returns-clause-ok : goal.returns-clause-ok
returns-clause-ok g c =
    ended_by _ _ c.ask.new.source c.args.visitor.now c.answer_line.new.visitor c.args.line.now c.as_slice-text.result.now c.clear.new.self c.args.byte c.in_ok-quits.quits _ (g.W.Write.contents c.args.writer.now) (g.W.Write.contents c.answer_line.new.writer)
    c.as_slice-text.ensures.pending (search (rules, nat_tests)) c.as_slice-text.ensures.value (lent_gave _ _ _ _ _ _ c.lent.ensures c.in_ok-answer.ensures.ok)
    c.in_ok-quits.ensures.written c.in_ok-quits.ensures.next c.in_ok-quits.ensures.quits c.clear.ensures
