use Rattle.timeline_values.proofs.Opened.{opened_at_start}
use Rattle.timeline_values.proofs.opening.Opening.new.Goals as goal

pub returns-clause-opened : goal.returns-clause-opened
returns-clause-opened g c = λ es.
    opened_at_start c.args.setup.now es c.args.state.now g.K.Ranged.range.from c.in_ok-new.field-0 c.requires.starts c.in_ok-new.ensures
