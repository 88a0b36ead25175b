use Rattle.run_log.proofs.Common.{refl, flat_map, line_text}
use Rattle.run_log.proofs.Rows.{line_more}
use Rattle.run_log.proofs.line.put_lines.Goals as goal

pub loop-rest-preserved : goal.loop-rest-preserved
loop-rest-preserved c =
    line_more (line_text c.args.setup.now) (flat_map (line_text c.args.setup.now)) (λ r rs. refl) c.args.out.now.items c.loop-rest.out.items _ c.args.changes.now c.loop-rest.rest.now
    c.split_at.result.0.now c.split_at.result.1.now c.first_row.result c.first_row.ensures.parted
    c.split_at.ensures.front c.split_at.ensures.back c.in_ok-put_line.ensures c.loop-rest.invariant
