use Rattle.machine.specs.Runs.{start}
use Rattle.stops.proofs.Exactness.{record_there, exact_record}
use Rattle.stops.proofs.sites.record_of.Goals as goal

pub bounds-records-moment : goal.bounds-records-moment
bounds-records-moment c = record_there (start c.args.walker.now.setup) c.args.walker.now.events c.records.result.now c.args.moment c.records.ensures.recorded c.requires

pub returns : goal.returns
returns c = exact_record (start c.args.walker.now.setup) c.args.walker.now.events c.records.result.now c.args.moment c.index-records-moment.result c.records.ensures.recorded c.requires c.index-records-moment.is
