use Rattle.shrinking.proofs.Keeping.{candidate_if}
use Rattle.shrinking.proofs.goal.replay_from.Goals as goal

pub returns-in-Ok : goal.returns-in-Ok
returns-in-Ok c = let e = c.in-Ok.ensures in candidate_if c.args.goal c.setup.result.now c.args.events.now _ c.setup.ensures e.runs e.sighting c.requires.short
