use Rattle.std.proofs.Common.{List, length, refl, subst}
use Rattle.scenario.specs.declared.event.Event.{Event}
use Rattle.runs.specs.Moments.{IsAt}
use Rattle.exploring.proofs.Openings.{ready_at}
use Rattle.exploring.proofs.random_runs.RandomRuns.look.Goals as goal

pub make-requires-clause-stays : goal.make-requires-clause-stays
make-requires-clause-stays c = λ o es more most h. tt

pub returns-in-Ok-clause-ready : goal.returns-in-Ok-clause-ready
returns-in-Ok-clause-ready c = ready_at c.args.self.now c.make.new.worker _ c.in_ok-make.ensures.ready refl refl refl refl refl (subst (λ (es : List Event). IsAt c.args.self.now.setup.now es (length es) c.examine.new.state) c.deref.ensures.value c.in-Ok.ensures.at)
