use Rattle.watches.proofs.Finding.{the_earlier}
use Rattle.watches.proofs.searching.earlier.Goals as goal

pub returns-clause-stop : goal.returns-clause-stop
returns-clause-stop c = the_earlier c.args.walker.now c.args.watches.now.watchpoints c.earlier_among.result (rw (← c.places.ensures.value) c.earlier_among.ensures)
