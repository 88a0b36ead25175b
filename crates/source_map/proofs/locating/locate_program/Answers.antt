use Rattle.std.proofs.Common.{◌≡◌, ◌<◌, ◌∷◌, ◌++◌, [], IsTrue, length, arith, rules}
use Rattle.script.specs.Instructions.{instruction_at}
use Rattle.source_map.proofs.Lists.{located_more}
use Rattle.source_map.proofs.locating.locate_program.Goals as goal

pub loop-i-preserved : goal.loop-i-preserved
loop-i-preserved c =
    let lt : c.loop-i.i < length c.args.program.now = omega arith in
    let yes : IsTrue c.in_ok-is_instruction.field-0 = search rules in
    let more : c.push.new.self.items ≡ c.loop-i.items.items ++ c.in-Some.item ∷ [] = search rules in
    let m = located_more (instruction_at c.args.size c.args.thread) c.args.text.now c.loop-i.items.items c.push.new.self.items c.args.program.now c.loop-i.i c.index-program-i.result _ c.in-Some.item c.loop-i.cursor.offset lt c.index-program-i.is c.loop-i.invariant.items c.loop-i.invariant.offset (c.in_ok-is_instruction.ensures yes) c.in-Some.ensures.after c.in-Some.ensures.span c.in-Some.ensures.start c.in-Some.ensures.end more in
    record { items = m.0; cursor = c.in-Some.ensures.cursor; offset = omega (arith, c.in-Some.ensures.offset, m.1) }
