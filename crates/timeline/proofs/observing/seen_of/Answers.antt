use Rattle.timeline.proofs.Common.{rules, sym, subst, length, EventRange, HasOpened, AreSteps}
use Rattle.timeline.proofs.observing.seen_of.Goals as goal

pub returns : goal.returns
returns g c =
    let es = c.args.events.now in
    let same = sym c.requires.range in record {
      runs = c.requires.accepted;
      followed = search rules;
      values = subst (λ (r : EventRange). HasOpened c.args.setup.now es (length es) r.from c.args.observers.second.first.values) same c.requires.opened;
      steps = subst (λ (r : EventRange). AreSteps c.args.setup.now es r (length es) c.args.observers.second.second.steps.items) same c.requires.steps;
      findings = search rules;
    }
