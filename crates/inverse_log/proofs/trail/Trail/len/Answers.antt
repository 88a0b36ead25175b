use Rattle.machine.specs.Runs.{start, run}
use Rattle.inverse_log.proofs.Runs.{linked_accepts}
use Rattle.inverse_log.proofs.trail.Trail.len.Goals as goal

pub returns-clause-runs : goal.returns-clause-runs
returns-clause-runs c =
    rw (← c.self.view_is)
    (linked_accepts (start c.self.inside.setup) (run (start c.self.inside.setup) c.self.inside.events.items) c.self.inside.events.items c.self.inside.records.items c.self.invariant.linked)
