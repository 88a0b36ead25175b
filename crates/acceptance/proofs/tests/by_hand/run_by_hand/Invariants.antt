use Rattle.acceptance.proofs.tests.by_hand.run_by_hand.Given as goal

abbrev pub ghosts-by_hand : goal.ghosts-by_hand
ghosts-by_hand a = record { name = a.blank.name; parts = a.blank.parts }
