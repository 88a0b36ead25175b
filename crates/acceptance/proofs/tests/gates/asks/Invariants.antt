use Rattle.acceptance.proofs.tests.gates.asks.Given as goal

abbrev pub ghosts-open_and_ask : goal.ghosts-open_and_ask
ghosts-open_and_ask g a = record { name = a.blank.name; parts = a.blank.parts }
