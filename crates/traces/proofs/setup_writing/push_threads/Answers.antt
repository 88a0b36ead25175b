use Rattle.std.proofs.Common.{◌≡◌, length, take}
use Rattle.std.proofs.lemmas.List.{take_all}
use Rattle.std.specs.List.{AllByRecursion}
use Rattle.byteorder.specs.Endian.{little_bytes}
use Rattle.traces.specs.Limits.{keeps_program, HasWidths}
use Rattle.traces.specs.Setups.{program_bytes}
use Rattle.traces.proofs.Written.{item_written, item_fits, item_kept}
use Rattle.traces.proofs.setup_writing.push_threads.Goals as goal

pub loop-program-preserved : goal.loop-program-preserved
loop-program-preserved c =
    let threads = c.args.threads.now in
    let i = c.loop-program.program-index in
    let x = c.program-item.result in
    let lt = c.loop-program-test.true in
    let there = c.program-item.is in
    let bytes = rw c.as_slice.ensures at c.in_ok-push_program.ensures.spelled in
    let fits = rw c.as_slice.ensures at c.in_ok-push_program.ensures.widths in
    let spelled = item_written program_bytes threads i x c.args.out.now.items (little_bytes 4 (length threads)) _ _ lt there c.loop-program.invariant.0 bytes in
    (spelled, item_fits (AllByRecursion HasWidths) threads i x lt there c.loop-program.invariant.1 fits)

pub push_program-requires : goal.push_program-requires
push_program-requires c =
    rw c.as_slice.ensures
    (item_kept (keeps_program c.args.slots) c.args.threads.now c.loop-program.program-index c.program-item.result c.loop-program-test.true c.program-item.is c.requires.kept)

pub returns : goal.returns
returns c =
    let threads = c.args.threads.now in
    let i = c.loop-program.program-index in
    let all : take i threads ≡ threads = take_all i threads c.loop-program-test.false in
    record { spelled = rw all at c.loop-program.invariant.0; widths = rw all at c.loop-program.invariant.1 }
