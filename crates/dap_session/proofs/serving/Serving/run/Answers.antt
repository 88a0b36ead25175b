-- The invariant over a read, and what it says where the session ends.
use Rattle.std.proofs.Common.{◌<◌, length, take, rules}
use Rattle.dap_session.proofs.Conversing.{took_none, took_more, served_to_end, served_to_message}
use Rattle.dap_session.proofs.serving.Serving.run.Goals as goal

pub reads-init : goal.reads-init
reads-init g c = took_none _ _ _ c.requires

pub returns-then-count-eq0 : goal.returns-then-count-eq0
returns-then-count-eq0 g c =
    let room : 0 < length c.read.new.buf = search rules in
    served_to_end _ _ _ _ _ c.reads.self c.read.new.buf c.in-Ok.count c.if-count-eq0.true room c.reads.invariant c.in-Ok.ensures.bytes

pub take-requires : goal.take-requires
take-requires g c = c.reads.invariant.empty

pub returns-then-branch : goal.returns-then-branch
returns-then-branch g c =
    let step = rw c.if-branch.true at c.in_ok-take.ensures.ok in
    served_to_message _ _ _ _ _ _ c.reads.self c.take.new.self (take c.in-Ok.count c.read.new.buf) c.reads.invariant c.in-Ok.ensures.bytes.0 step

pub reads-preserved : goal.reads-preserved
reads-preserved g c =
    let step = rw c.if-branch.false at c.in_ok-take.ensures.ok in
    took_more _ _ _ _ _ _ c.reads.self c.take.new.self (take c.in-Ok.count c.read.new.buf) c.reads.invariant c.in-Ok.ensures.bytes.0 step c.in_ok-take.ensures.empty
