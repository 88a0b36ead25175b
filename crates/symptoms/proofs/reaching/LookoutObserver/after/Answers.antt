use Rattle.symptoms.proofs.Taking.{looked_more}
use Rattle.symptoms.proofs.reaching.LookoutObserver.after.Goals as goal

pub returns-clause-ok : goal.returns-clause-ok
returns-clause-ok g c = (c.requires.seen.0, looked_more _ _ c.args.at.index c.args.at.event c.args.past.now c.args.at.state.now _ c.args.self.now.reached _ c.took-is_taken.result c.requires.at c.took-is_taken.ensures c.requires.seen.1 c.first_of-self.ensures)
