use Rattle.std.proofs.Common.{◌<◌, length, arith, append-nil}
use Rattle.std.proofs.lemmas.Result.{err_from_is_err_and}
use Rattle.debug_server.proofs.Asking.{fed_none, fed_more, fed_past, cut_more}
use Rattle.debug_server.proofs.serving.feed.Goals as goal

pub loop-byte-init : goal.loop-byte-init
loop-byte-init g c = rw append-nil (fed_none _ _ _ _ _)

pub returns-in_err-take_byte-clause-err : goal.returns-in_err-take_byte-clause-err
returns-in_err-take_byte-clause-err g c =
    let p = err_from_is_err_and c.from_residual.result c.from_residual.ensures.1 in
    let lt : c.loop-byte.byte-index < length c.args.bytes.now = omega arith in
    rw (p.1, p.2) (cut_more _ _ _ c.loop-byte.source c.take_byte.new.source _ c.args.visitor.now c.loop-byte.visitor c.args.line.now c.args.bytes.now c.loop-byte.line c.loop-byte.byte-index _ _ _ lt c.loop-byte.invariant c.in_err-take_byte.ensures.err)

pub returns-then-branch-clause-ok : goal.returns-then-branch-clause-ok
returns-then-branch-clause-ok g c =
    let lt : c.loop-byte.byte-index < length c.args.bytes.now = omega arith in
    let step = rw c.if-branch.true at c.in_ok-take_byte.ensures.ok in
    fed_past _ _ c.loop-byte.source c.take_byte.new.source c.args.visitor.now c.loop-byte.visitor c.take_byte.new.visitor c.args.line.now c.args.bytes.now c.loop-byte.line c.take_byte.new.line c.loop-byte.byte-index _ _ _ lt c.loop-byte.invariant step

pub loop-byte-preserved : goal.loop-byte-preserved
loop-byte-preserved g c =
    let lt : c.loop-byte.byte-index < length c.args.bytes.now = omega arith in
    let step = rw c.if-branch.false at c.in_ok-take_byte.ensures.ok in
    fed_more _ _ c.loop-byte.source c.take_byte.new.source c.args.visitor.now c.loop-byte.visitor c.take_byte.new.visitor c.args.line.now c.args.bytes.now c.loop-byte.line c.take_byte.new.line c.loop-byte.byte-index _ _ _ _ lt c.loop-byte.invariant step
