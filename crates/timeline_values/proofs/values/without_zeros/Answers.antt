use Rattle.std.proofs.Common.{◌∙◌, ◌-◌, ◌++◌, sym, ap, arith, take}
use Rattle.std.proofs.lemmas.List.{take-append-drop}
use Rattle.timeline_values.proofs.Common.{length}
use Rattle.timeline_values.proofs.Valued.{zeros_more}
use Rattle.timeline_values.proofs.values.without_zeros.Goals as goal

pub loop-end-preserved : goal.loop-end-preserved
loop-end-preserved c =
    let within = c.loop-end.invariant.0 in
    (omega arith, zeros_more c.args.bytes.now c.loop-end.end c.loop-end-test.true within c.if-bytes-end-eq0.true c.loop-end.invariant.1)

pub returns : goal.returns
returns c =
    let bytes = c.args.bytes.now in
    let end = c.loop-end.end in
    (length bytes - end, sym (take-append-drop end bytes) ∙ ap (λ xs. take end bytes ++ xs) c.loop-end.invariant.1)
