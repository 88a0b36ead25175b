use Rattle.std.proofs.Common.{sym, ◌∙◌}
use Rattle.symptoms.proofs.Sighted.{sighted_at}
use Rattle.symptoms.proofs.examining.examine_goals_as.Goals as goal

pub returns-in-Ok-conclusive_findings-clause-sighting : goal.returns-in-Ok-conclusive_findings-clause-sighting
returns-in-Ok-conclusive_findings-clause-sighting g c =
    let looked = c.in-Ok-drive.ensures.seen.1 in
    sighted_at c.args.setup.now c.args.events.now c.args.goals _ _ c.sighting_at.result (looked.0 ∙ sym c.requires.goals) looked.1 c.sighting_at.ensures
