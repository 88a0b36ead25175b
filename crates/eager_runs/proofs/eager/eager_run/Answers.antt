use Rattle.std.proofs.Common.{ap, arith, length, List}
use Rattle.scenario.specs.declared.event.Event.{Event}
use Rattle.std.proofs.lemmas.Result.{err_from_is_err_and}
use Rattle.eager_runs.proofs.EagerRuns.{from_start, stops_from_start}
use Rattle.eager_runs.proofs.eager.eager_run.Goals as goal

pub follow_all-requires-clause-few : goal.follow_all-requires-clause-few
follow_all-requires-clause-few c = omega (arith, ap (λ (x : List Event). length x) c.in-Ok.ensures.2)

pub returns-clause-accepts : goal.returns-clause-accepts
returns-clause-accepts c =
    (from_start c.args.setup.now c.in-Ok.run'.plain c.in-Ok.run'.state c.follow_all.new.self.state c.args.schedule.now c.in-Ok.run'.events.items c.follow_all.new.self.events.items
    c.in-Ok.ensures.0 c.in-Ok.ensures.1 c.in-Ok.ensures.2 c.in_ok-follow_all.ensures.follows).0

pub returns-clause-eager : goal.returns-clause-eager
returns-clause-eager c =
    (from_start c.args.setup.now c.in-Ok.run'.plain c.in-Ok.run'.state c.follow_all.new.self.state c.args.schedule.now c.in-Ok.run'.events.items c.follow_all.new.self.events.items
    c.in-Ok.ensures.0 c.in-Ok.ensures.1 c.in-Ok.ensures.2 c.in_ok-follow_all.ensures.follows).1

pub returns-in_err-follow_all-clause-refused : goal.returns-in_err-follow_all-clause-refused
returns-in_err-follow_all-clause-refused c =
    let p = err_from_is_err_and c.from_residual.result c.from_residual.ensures.1 in
    rw (p.1, p.2) (λ i n e. stops_from_start c.args.setup.now c.in-Ok.run'.plain c.in-Ok.run'.state c.args.schedule.now i n c.in-Ok.ensures.0 c.in-Ok.ensures.1 (c.in_err-follow_all.ensures.refused i n e))
