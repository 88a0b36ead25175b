use Rattle.std.proofs.Common.{ℕ, arith}
use Rattle.std.proofs.lemmas.List.{length-take}
use Rattle.model_files.proofs.Among.{span_fresh, spans_on, spans_end, spans_spare}
use Rattle.model_files.proofs.differing.note_differing.Goals as goal

pub note_bytes-requires-clause-fresh : goal.note_bytes-requires-clause-fresh
note_bytes-requires-clause-fresh c =
    span_fresh c.args.region c.args.start c.args.old.now c.args.others.now _ _ c.loop-span.done c.in-Some.span.from c.in-Some.span.end _ c.loop-span.invariant c.in-Some.ensures.0 c.in-Some.ensures.1 (omega (arith, length-take {A = ℕ}))

pub loop-span-preserved : goal.loop-span-preserved
loop-span-preserved c =
    spans_on c.args.region c.args.start c.args.old.now c.args.others.now _ c.loop-span.notes _ c.loop-span.done c.in-Some.span.from c.in-Some.span.end c.loop-span.invariant c.in-Some.ensures.0 c.in-Some.ensures.1 c.in_ok-note_bytes.ensures.ok c.in_ok-note_bytes.ensures.room

pub returns-clause-noted : goal.returns-clause-noted
returns-clause-noted c = spans_end c.args.region c.args.start c.args.old.now c.args.others.now _ _ c.loop-span.done c.loop-span.invariant c.requires.len c.in_default.ensures

pub returns-clause-spared : goal.returns-clause-spared
returns-clause-spared c = spans_spare c.args.region c.args.start c.args.old.now c.args.others.now _ _ c.loop-span.done c.loop-span.invariant

pub returns-in_err-note_bytes-clause-spared : goal.returns-in_err-note_bytes-clause-spared
returns-in_err-note_bytes-clause-spared c =
    rw c.in_err-note_bytes.ensures.err (spans_spare c.args.region c.args.start c.args.old.now c.args.others.now _ _ c.loop-span.done c.loop-span.invariant)
