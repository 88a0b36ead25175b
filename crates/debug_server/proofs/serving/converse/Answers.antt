use Rattle.std.proofs.Common.{◌<◌, length, take, rules}
use Rattle.std.proofs.KnownBytes.{Keeps-refl}
use Rattle.std.proofs.lemmas.Result.{err_from_is_err_and, IfOk-weaker, IfErr-weaker}
use Rattle.debug_server.proofs.Asking.{read_none, read_more, quit_by, end_by, broke_by, broke_end_by, broke_feed_by, with_replying, not_closed}
use Rattle.debug_server.proofs.Reading.{at_end}
use Rattle.debug_server.proofs.serving.converse.Goals as goal

pub reads-init : goal.reads-init
reads-init g c = rw c.new-line.ensures (read_none _ _ _ _ _)

pub returns-in_default-clause-err : goal.returns-in_default-clause-err
returns-in_default-clause-err g c = broke_by _ _ _ c.reads.source _ _ c.reads.visitor _ _ _ _ _ c.reads.line c.reads.invariant c.in_default.ensures.bytes c.as_slice-unended.ensures.pending

pub returns-then-count-eq0-clause-ok : goal.returns-then-count-eq0-clause-ok
returns-then-count-eq0-clause-ok g c =
    let room : 0 < length c.read.new.buf = search rules in
    let e = at_end _ _ c.read.new.buf c.in-Ok.count c.if-count-eq0.true room c.in-Ok.ensures.bytes in
    IfOk-weaker c.finish.result _ _ (λ q f. end_by _ _ c.reads.source _ _ c.reads.visitor _ _ _ _ _ _ _ c.reads.line c.as_slice.result.now q c.reads.invariant e.none e.over c.as_slice.ensures.value f) c.finish.ensures.ok

pub returns-then-count-eq0-clause-err : goal.returns-then-count-eq0-clause-err
returns-then-count-eq0-clause-err g c =
    let room : 0 < length c.read.new.buf = search rules in
    let e = at_end _ _ c.read.new.buf c.in-Ok.count c.if-count-eq0.true room c.in-Ok.ensures.bytes in
    IfErr-weaker c.finish.result _ _ (λ fault f. broke_end_by _ _ _ c.reads.source c.finish.new.source fault _ c.reads.visitor _ _ _ _ _ _ c.reads.line c.as_slice.result.now c.reads.invariant e.none e.over c.as_slice.ensures.value f.1 f.0) (with_replying _ c.finish.result c.finish.ensures.err c.finish.ensures.fault)

pub returns-then-count-eq0-clause-open : goal.returns-then-count-eq0-clause-open
returns-then-count-eq0-clause-open g c = not_closed c.finish.result c.finish.ensures.fault

pub returns-in_err-feed-clause-err : goal.returns-in_err-feed-clause-err
returns-in_err-feed-clause-err g c =
    let p = err_from_is_err_and c.from_residual.result c.from_residual.ensures.1 in
    rw (p.1, p.2) (broke_feed_by _ _ _ c.reads.source c.feed.new.source _ _ c.reads.visitor _ _ _ _ _ _ c.reads.line (take c.in-Ok.count c.read.new.buf) c.reads.invariant c.in-Ok.ensures.bytes.0 c.in_err-feed.ensures.fault c.in_err-feed.ensures.err)

pub returns-then-branch-clause-ok : goal.returns-then-branch-clause-ok
returns-then-branch-clause-ok g c =
    let step = rw c.if-branch.true at c.in_ok-feed.ensures.ok in
    quit_by _ _ c.reads.source c.feed.new.source _ c.reads.visitor c.feed.new.visitor _ _ _ _ _ _ c.reads.line (take c.in-Ok.count c.read.new.buf) c.feed.new.line c.reads.invariant c.in-Ok.ensures.bytes.0 step

pub reads-preserved : goal.reads-preserved
reads-preserved g c =
    let step = rw c.if-branch.false at c.in_ok-feed.ensures.ok in
    read_more _ _ c.reads.source c.feed.new.source _ c.reads.visitor c.feed.new.visitor _ _ _ _ _ _ c.reads.line (take c.in-Ok.count c.read.new.buf) c.feed.new.line c.reads.invariant c.in-Ok.ensures.bytes.0 step

pub returns-clause-err : goal.returns-clause-err
returns-clause-err g c = broke_by _ _ _ c.reads.source _ _ c.reads.visitor _ _ _ _ _ c.reads.line c.reads.invariant (Keeps-refl (g.R.Read.remaining c.reads.reader)) c.as_slice-unended-2.ensures.pending
