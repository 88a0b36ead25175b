use Rattle.std.proofs.Common.{◌≡◌, ◌<◌, ◌∷◌, ◌++◌, [], length, map, arith, rules}
use Rattle.std.proofs.lemmas.Result.{err_from_is_err_and}
use Rattle.serde_json.specs.View.{view}
use Rattle.script.specs.Lists.{each}
use Rattle.script.specs.Instructions.{instruction_at}
use Rattle.script.proofs.Each.{each_on, each_fails}
use Rattle.script.proofs.threads.read_instructions.Goals as goal

pub returns-in_err-instruction : goal.returns-in_err-instruction
returns-in_err-instruction c =
    let p = err_from_is_err_and c.from_residual.result c.from_residual.ensures.1 in
    let lt : c.loop-i.i < length c.args.items.now = omega arith in
    let f = instruction_at c.args.size c.args.thread in
    rw (p.1, p.2) (each_fails f c.args.items.now c.loop-i.i c.index-items-i.result _ c.loop-i.instructions.items (each f 0 (map view c.args.items.now)) lt c.index-items-i.is c.loop-i.invariant c.in_err-instruction.ensures)

pub loop-i-preserved : goal.loop-i-preserved
loop-i-preserved c =
    let lt : c.loop-i.i < length c.args.items.now = omega arith in
    let items : c.push.new.self.items ≡ c.loop-i.instructions.items ++ c.in_ok-instruction.instruction ∷ [] = search rules in
    rw items (each_on (instruction_at c.args.size c.args.thread) c.args.items.now c.loop-i.i c.index-items-i.result c.in_ok-instruction.instruction c.loop-i.instructions.items _ lt c.index-items-i.is c.loop-i.invariant c.in_ok-instruction.ensures)
