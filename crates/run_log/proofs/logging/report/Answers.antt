use Rattle.run_log.proofs.Common.{◌≡◌}
use Rattle.run_log.proofs.Following.{shows_of}
use Rattle.run_log.proofs.logging.report.Goals as goal

pub returns : goal.returns
returns c =
    let same : c.deref.result.now ≡ c.in_ok-changes.changes.items = cc c.deref.ensures.value in
    let done = c.in_ok-changes.ensures in
    shows_of c.event_lines.result (λ t. t.items) c.args.setup.now c.args.index c.args.event _ c.args.past.now c.in_ok-changes.changes.items c.deref.result.now done.once done.listing same c.event_lines.ensures
