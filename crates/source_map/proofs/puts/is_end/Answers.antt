use Rattle.std.proofs.Common.{◌<◌, length, arith}
use Rattle.source_map.proofs.PutTexts.{end_spelled}
use Rattle.source_map.proofs.puts.is_end.Goals as goal

pub returns-in-Some-empty : goal.returns-in-Some-empty
returns-in-Some-empty c ended =
    let none : length c.in-Some-empty.field-0.now < 1 = omega arith in
    end_spelled c.args.after_value c.args.text.now c.after_gap.result.now c.in-Some.rest.now c.after_gap-in-Some.result.now c.in-Some-empty.field-0.now c.after_gap.ensures c.in-Some.ensures c.after_gap-in-Some.ensures c.in-Some-empty.ensures none
