use Rattle.std.proofs.Common.{Err, ap, subst}
use Rattle.inverse_log.specs.Tracks.{RefusedAt}
use Rattle.inverse_log.specs.Walks.{Walk, ending}
use Rattle.debug_server.proofs.Stopping.{stops_for}
use Rattle.debug_server.proofs.session.run_through.Goals as goal

pub returns-in-Err-clause-stops : goal.returns-in-Err-clause-stops
returns-in-Err-clause-stops c = λ setup from.
    stops_for setup c.args.events.now c.in-Err.refusal c.fault_of.result c.fault_of.ensures
    (λ i n e. let P : Walk → Type 0 = λ w. RefusedAt (ending w) c.args.events.now i n in
    subst P from (c.in-Err.ensures.refused i n (ap (λ x. Err x) e)))
