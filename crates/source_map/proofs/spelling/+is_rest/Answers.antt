use Rattle.std.proofs.Common.{◌<◌, ◌≤◌, length, arith}
use Rattle.source_map.proofs.ListTexts.{rest_empty, rest_more}
use Rattle.source_map.proofs.spelling.+is_rest.Goals as goal

pub returns-in-Some-empty : goal.returns-in-Some-empty
returns-in-Some-empty t c ended =
    let none : length c.args.numbers.now < 1 = omega arith in
    let end : length c.in-Some-empty.field-0.now < 1 = omega arith in
    rest_empty c.args.text.now c.after_gap.result.now c.in-Some-empty.field-0.now c.args.numbers.now none end c.after_gap.ensures c.in-Some-empty.ensures

pub returns : goal.returns
returns t c ended =
    let some : 1 ≤ length c.args.numbers.now = omega arith in
    rest_more c.args.text.now c.in-Some.rest.now c.after_gap-2.result.now c.in-Some-after_number.rest.now c.args.numbers.now some c.in-Some.ensures c.after_gap-2.ensures c.in-Some-after_number.ensures (c.is_rest.ensures ended)
