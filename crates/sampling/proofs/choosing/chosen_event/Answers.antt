use Rattle.sampling.proofs.Offering.{best_is_chosen, none_is_chosen}
use Rattle.sampling.proofs.choosing.chosen_event.Goals as goal

pub returns-in-Some-clause-some : goal.returns-in-Some-clause-some
returns-in-Some-clause-some c = best_is_chosen c.args.source.now c.args.state.now c.in-Some.best (c.in-Some.ensures (c.with_rows-best.ensures (c.with_poller-best.ensures c.best_thread-best.ensures)))

pub returns-in-None-clause-none : goal.returns-in-None-clause-none
returns-in-None-clause-none c = none_is_chosen c.args.source.now c.args.state.now (c.in-None.ensures (c.with_rows-best.ensures (c.with_poller-best.ensures c.best_thread-best.ensures)))
