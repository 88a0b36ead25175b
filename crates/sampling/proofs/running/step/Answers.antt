use Rattle.sampling.proofs.RunLemmas.{before_last, after_last}
use Rattle.sampling.proofs.running.step.Goals as goal

pub before-requires-clause-at : goal.before-requires-clause-at
before-requires-clause-at g c =
    let last = c.requires.last in
    before_last c.args.setup.now c.args.state.now last.0 c.args.events.now last.1 c.args.earlier c.args.event last.2

pub after-requires-clause-at : goal.after-requires-clause-at
after-requires-clause-at g c =
    let last = c.requires.last in
    let e = c.in-Ok-step.ensures in
    after_last c.args.setup.now c.args.state.now c.step.new.self last.0 c.args.events.now last.1 c.args.earlier c.args.event c.in-Ok-step.past last.2 c.step.ensures.formed e.next e.exact e.leads_back
