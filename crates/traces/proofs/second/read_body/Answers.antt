use Rattle.std.proofs.Common.{sym, ◌∙◌}
use Rattle.std.proofs.lemmas.Result.{err_from_is_err_and}
use Rattle.traces.specs.Cursors.{at_offset}
use Rattle.traces.specs.Reading.{setup_at, after_magic}
use Rattle.traces.proofs.SecondForm.{body_fault}
use Rattle.traces.proofs.second.read_body.Goals as goal

pub returns-in_err-events-clause-fault : goal.returns-in_err-events-clause-fault
returns-in_err-events-clause-fault c =
    let p = err_from_is_err_and c.from_residual-in_err-events.result c.from_residual-in_err-events.ensures.1 in
    rw (p.1, p.2)
    (body_fault (setup_at (after_magic c.args.bytes.now)) c.in_ok-setup.setup (at_offset c.args.bytes.now c.in_ok-setup.after) c.rest_of.result.now c.in_err-events.field-0.0 c.in_ok-setup.ensures c.rest_of.ensures c.in_err-events.ensures.fault)

pub returns-clause-found : goal.returns-clause-found
returns-clause-found c =
    (at_offset c.args.bytes.now c.in_ok-setup.after, c.in_ok-setup.ensures, sym c.rest_of.ensures ∙ c.in_ok-events.ensures.spelled, c.in_ok-events.ensures.events)
