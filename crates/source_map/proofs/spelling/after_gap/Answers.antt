use Rattle.source_map.proofs.ListTexts.{gap_before}
use Rattle.source_map.proofs.spelling.after_gap.Goals as goal

pub returns : goal.returns
returns c = gap_before c.gap_length.result c.args.text.now c.gap_length.ensures.gap
