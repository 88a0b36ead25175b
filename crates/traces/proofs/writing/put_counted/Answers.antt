use Rattle.std.proofs.Common.{◌<◌, length, ◌∙◌}
use Rattle.byteorder.specs.Endian.{little_bytes}
use Rattle.traces.proofs.Traces.{read_there, written_more, fits_more}
use Rattle.traces.proofs.writing.put_counted.Goals as goal

pub loop-event-preserved : goal.loop-event-preserved
loop-event-preserved c =
    let es = c.args.events.now in
    let i = c.loop-event.event-index in
    let there : i < length es = c.loop-event-test.true in
    let spelled = rw read_there at c.event_bytes.ensures.spelled in
    let fits = rw read_there at c.event_bytes.ensures.fits in
    let more = written_more es i c.args.out.now.items (little_bytes 4 (length es)) c.loop-event.out.items _ there c.loop-event.invariant.0 spelled in
    (c.in_ok-extend_from_slice-2.ensures.items ∙ more, fits_more es i there c.requires.transfers c.loop-event.invariant.1 fits)
