use Rattle.findings.proofs.Common.{◌<◌, ◌≤◌, length, not, ◌&&◌, sym, ap, ◌∙◌, arith, moves, is_marked}
use Rattle.findings.proofs.Marks.{marks_kept, marks_removed, marks_unset}
use Rattle.findings.proofs.suspects.forget_written.Goals as goal

pub returns-in_default-clause-marks : goal.returns-in_default-clause-marks
returns-in_default-clause-marks c = λ o k.
    marks_kept (is_marked c.args.suspects.now.items o k) ∙ ap (λ w. is_marked c.args.suspects.now.items o k && not (moves w o k)) (sym c.in_default.is)

pub returns-then-written-len-clause-marks : goal.returns-then-written-len-clause-marks
returns-then-written-len-clause-marks c = λ o k.
    let past : length c.args.suspects.now.items ≤ c.in-Some.written.file = omega (arith, c.if-written-len.true, c.len.ensures) in
    marks_unset c.args.suspects.now.items c.in-Some.written o k past ∙ ap (λ w. is_marked c.args.suspects.now.items o k && not (moves w o k)) (sym c.in-Some.is)

pub returns-clause-marks : goal.returns-clause-marks
returns-clause-marks c = λ o k.
    let there : c.in-Some.written.file < length c.args.suspects.now.items = omega (arith, c.if-written-len.false, c.len.ensures) in
    marks_removed c.args.suspects.now.items c.in-Some.written c.index_mut.result.now c.forget.new.bytes there c.index_mut.ensures.value c.forget.ensures o k
    ∙ ap (λ w. is_marked c.args.suspects.now.items o k && not (moves w o k)) (sym c.in-Some.is)
