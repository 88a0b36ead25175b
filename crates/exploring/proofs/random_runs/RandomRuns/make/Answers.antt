use Rattle.std.proofs.Common.{refl}
use Rattle.exploring.proofs.Openings.{at_end, ready_more}
use Rattle.exploring.proofs.random_runs.RandomRuns.make.Goals as goal

pub sample-requires-clause-opening : goal.sample-requires-clause-opening
sample-requires-clause-opening g c = rw c.requires.opened.ready.runs.program c.requires.opened.whole

pub sample-requires-clause-linked : goal.sample-requires-clause-linked
sample-requires-clause-linked g c = rw c.requires.opened.ready.runs.program c.requires.opened.ready.linked

pub sample-requires-clause-stays : goal.sample-requires-clause-stays
sample-requires-clause-stays g c = rw c.requires.opened.ready.runs.program c.requires.stays

pub sample-requires-clause-seen : goal.sample-requires-clause-seen
sample-requires-clause-seen g c = rw c.requires.opened.ready.runs.program c.requires.seen

pub returns-clause-ready : goal.returns-clause-ready
returns-clause-ready g c = ready_more c.args.self.now c.args.worker.now _ c.requires.opened.ready c.in_ok-sample.ensures.begins refl refl refl (rw c.requires.opened.ready.runs.program at c.sample.ensures.linked)

pub returns-clause-events : goal.returns-clause-events
returns-clause-events g c = rw c.requires.opened.ready.runs.program at c.in_ok-sample.ensures.sample

pub returns-clause-at : goal.returns-clause-at
returns-clause-at g c = at_end _ c.sample.new.state c.sample.new.into.events.items c.sample.new.into.records.items (rw c.requires.opened.ready.runs.program at c.sample.ensures.linked)

pub returns-clause-seen : goal.returns-clause-seen
returns-clause-seen g c = rw c.requires.opened.ready.runs.program at c.in_ok-sample.ensures.seen
