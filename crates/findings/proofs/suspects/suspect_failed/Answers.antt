use Rattle.findings.proofs.Common.{◌<◌, length, ◌&&◌, ◌||◌, sym, ap, ◌∙◌, arith, is_volatile_at, is_marked, is_fsync_of}
use Rattle.findings.proofs.Marks.{marks_added}
use Rattle.findings.proofs.suspects.suspect_failed.Goals as goal

pub returns-clause-marks : goal.returns-clause-marks
returns-clause-marks c = λ o k l.
    let there : c.in-Some.fsync.file < length c.args.suspects.now.items = omega (arith, c.if-fsync-len.false, c.len.ensures) in
    marks_added c.args.suspects.now.items c.in-Some.fsync (is_volatile_at c.args.state.now) c.index_mut.result.now c.mark_volatile.new.bytes there c.index_mut.ensures.value c.in_ok-mark_volatile.ensures o k
    ∙ ap (λ x. is_marked c.args.suspects.now.items o k || (is_fsync_of x o && is_volatile_at c.args.state.now o k)) (sym c.in-Some.is)
