use Rattle.acceptance.proofs.tests.loopback.serve_both.Given as goal

abbrev pub ghosts-serve_two : goal.ghosts-serve_two
ghosts-serve_two g a = record { name = a.blank.name; parts = a.blank.parts }
