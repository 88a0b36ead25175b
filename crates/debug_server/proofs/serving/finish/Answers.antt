use Rattle.std.proofs.Common.{◌≡◌, ◌<◌, length, arith}
use Rattle.std.proofs.lemmas.Bool.Decides.{nat_tests}
use Rattle.std.proofs.lemmas.List.{nil_from_length}
use Rattle.std.proofs.lemmas.Result.{err_from_is_err_and}
use Rattle.debug_server.proofs.Asking.{lent_gave, ends_none, ends_by, front_by, front_none}
use Rattle.debug_server.proofs.serving.finish.Goals as goal

pub returns-then-line-eq0-clause-ok : goal.returns-then-line-eq0-clause-ok
returns-then-line-eq0-clause-ok g c =
    let none : length c.args.line.now ≡ 0 = grind (arith, nat_tests) in
    ends_none _ _ c.args.visitor.now c.args.line.now _ (nil_from_length c.args.line.now none)

pub returns-in_err-answer-clause-err : goal.returns-in_err-answer-clause-err
returns-in_err-answer-clause-err g c =
    let p = err_from_is_err_and c.from_residual.result c.from_residual.ensures.1 in
    let some : 0 < length c.args.line.now = grind (arith, nat_tests) in
    rw (p.1, p.2) (front_none _ _ _ c.ask.new.source _ c.args.visitor.now c.args.line.now _ c.requires some c.in_err-answer.ensures.err.0 c.in_err-answer.ensures.err.1 c.in_err-answer.ensures.err.2)

pub returns-clause-ok : goal.returns-clause-ok
returns-clause-ok g c =
    let some : 0 < length c.args.line.now = grind (arith, nat_tests) in
    ends_by _ _ c.ask.new.source c.args.visitor.now c.answer_line.new.visitor c.args.line.now c.in_ok-quits.quits _ _ _ c.requires some
    (lent_gave _ _ _ _ _ _ c.lent.ensures c.in_ok-answer.ensures.ok) c.in_ok-quits.ensures.written c.in_ok-quits.ensures.next c.in_ok-quits.ensures.quits

pub returns-in_err-quits-clause-err : goal.returns-in_err-quits-clause-err
returns-in_err-quits-clause-err g c =
    let p = err_from_is_err_and c.from_residual-in_err-quits.result c.from_residual-in_err-quits.ensures.1 in
    let some : 0 < length c.args.line.now = grind (arith, nat_tests) in
    rw (p.1, p.2) (front_by _ _ _ c.ask.new.source _ c.args.visitor.now c.args.line.now _ _ _ c.requires some (lent_gave _ _ _ _ _ _ c.lent.ensures c.in_ok-answer.ensures.ok) c.in_err-quits.ensures.err)
