use Rattle.machine.specs.Runs.{start}
use Rattle.watches.proofs.Naming.{record_there, exact_record}
use Rattle.watches.proofs.searching.record_of.Goals as goal

pub bounds-records-moment : goal.bounds-records-moment
bounds-records-moment c = record_there (start c.args.walker.now.setup) c.args.walker.now.events c.records.result.now c.args.moment c.records.ensures.recorded c.requires

pub returns-clause-exact : goal.returns-clause-exact
returns-clause-exact c = exact_record (start c.args.walker.now.setup) c.args.walker.now.events c.records.result.now c.args.moment c.index-records-moment.result c.records.ensures.recorded c.requires c.index-records-moment.is
