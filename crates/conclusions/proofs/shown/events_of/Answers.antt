use Rattle.exploring.proofs.Openings.{first_ready}
use Rattle.conclusions.proofs.shown.events_of.Goals as goal

pub examine_run-requires : goal.examine_run-requires
examine_run-requires c =
    let e = c.in_ok-worker.ensures in
    first_ready c.args.runs.now c.in_ok-worker.worker c.requires e.start e.events e.records e.opening e.opening_row e.search
