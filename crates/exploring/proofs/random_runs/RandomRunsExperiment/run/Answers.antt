use Rattle.exploring.proofs.Repeating.{shown_decided}
use Rattle.exploring.proofs.random_runs.RandomRunsExperiment.run.Goals as goal

pub returns-clause-shows : goal.returns-clause-shows
returns-clause-shows c =
    shown_decided c.args.self.now c.args.number c.examine_run.new.worker.sample.events.items c.in_ok-examined.examined.sighting c.in_ok-examined.examined.findings.items c.is_some.result c.is_some.ensures c.in_ok-examined.ensures.run
