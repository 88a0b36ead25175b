use Rattle.std.proofs.Common.{◌≡◌, length, take, nat_le}
use Rattle.std.specs.List.{list_all}
use Rattle.std.proofs.lemmas.Bool.{and_parts}
use Rattle.std.proofs.lemmas.List.{take_all}
use Rattle.byteorder.specs.Endian.{little_bytes}
use Rattle.traces.specs.Limits.{keeps_instruction, HasWidths}
use Rattle.traces.specs.Setups.{instruction_bytes}
use Rattle.traces.proofs.Written.{item_written, item_fits, item_kept}
use Rattle.traces.proofs.setup_writing.push_program.Goals as goal

pub loop-instruction-preserved : goal.loop-instruction-preserved
loop-instruction-preserved c =
    let program = c.args.program.now in
    let i = c.loop-instruction.instruction-index in
    let x = c.instruction-item.result in
    let lt = c.loop-instruction-test.true in
    let there = c.instruction-item.is in
    let spelled = item_written instruction_bytes program i x c.args.out.now.items (little_bytes 4 (length program)) _ _ lt there c.loop-instruction.invariant.0 c.in_ok-push_instruction.ensures.spelled in
    (spelled, item_fits HasWidths program i x lt there c.loop-instruction.invariant.1 c.in_ok-push_instruction.ensures.widths)

pub push_instruction-requires : goal.push_instruction-requires
push_instruction-requires c =
    let program = c.args.program.now in
    let keeps = keeps_instruction c.args.slots in
    let kept = and_parts (nat_le (length program) 4096) (list_all keeps program) c.requires in
    item_kept keeps program c.loop-instruction.instruction-index c.instruction-item.result c.loop-instruction-test.true c.instruction-item.is kept.1

pub returns : goal.returns
returns c =
    let program = c.args.program.now in
    let i = c.loop-instruction.instruction-index in
    let all : take i program ≡ program = take_all i program c.loop-instruction-test.false in
    record { spelled = rw all at c.loop-instruction.invariant.0; widths = rw all at c.loop-instruction.invariant.1 }
