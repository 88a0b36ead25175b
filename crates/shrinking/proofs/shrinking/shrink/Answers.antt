use Rattle.shrinking.proofs.Keeping.{kept_first, shrunk_of}
use Rattle.shrinking.proofs.shrinking.shrink.Goals as goal

pub pass-requires-clause-kept : goal.pass-requires-clause-kept
pass-requires-clause-kept c = rw (c.in_ok-to_vec.ensures.items_if_clones_equal (λ x y h. h)) (kept_first c.args.setup.now c.args.events.now c.args.symptom.now c.args.sighting _ (c.in_ok-goal.ensures c.args.setup.now c.in_ok-program.ensures) c.requires.runs c.requires.sighting)

pub returns : goal.returns
returns c = shrunk_of c.args.setup.now c.args.events.now c.args.symptom.now c.args.sighting _ c.pass.new.best.events.items c.pass.new.best.sighting (c.in_ok-goal.ensures c.args.setup.now c.in_ok-program.ensures) c.requires.sighting c.in_ok-pass.ensures
