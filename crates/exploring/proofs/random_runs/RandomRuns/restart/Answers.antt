use Rattle.std.proofs.Common.{refl}
use Rattle.exploring.proofs.Openings.{starts_opened, linked_nothing}
use Rattle.exploring.proofs.random_runs.RandomRuns.restart.Goals as goal

pub returns-clause-opened : goal.returns-clause-opened
returns-clause-opened c = starts_opened c.args.self.now _ c.requires.runs c.rewind.ensures.events (c.rewind.ensures.linked _ c.requires.linked) refl refl c.rewind.ensures.next_row refl

pub returns-clause-start : goal.returns-clause-start
returns-clause-start c = linked_nothing _ c.rewind.new.state c.rewind.new.sample.events.items c.rewind.new.sample.records.items c.rewind.ensures.events (c.rewind.ensures.linked _ c.requires.linked)
