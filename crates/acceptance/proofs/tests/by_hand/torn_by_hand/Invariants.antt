use Rattle.acceptance.proofs.tests.by_hand.torn_by_hand.Given as goal

abbrev pub ghosts-torn : goal.ghosts-torn
ghosts-torn a = record { name = a.blank.name; parts = a.blank.parts }
