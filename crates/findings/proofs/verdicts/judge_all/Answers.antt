use Rattle.findings.proofs.Common.{◌<◌, length, arith, has_byte_of, judged, is_marked}
use Rattle.findings.proofs.Lasting.{mapped_step}
use Rattle.findings.proofs.verdicts.judge_all.Goals as goal

pub loop-finding-preserved : goal.loop-finding-preserved
loop-finding-preserved c =
    let l : c.loop-finding.finding-index < length c.args.found.now = omega arith in
    mapped_step (judged (has_byte_of (is_marked c.args.sets.now) c.args.writes.now)) c.args.found.now c.loop-finding.found c.loop-finding.finding-index _ c.judged.result l c.loop-finding.invariant c.judged.ensures
