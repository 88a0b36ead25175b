use Rattle.symptoms.proofs.examining.examine.Given as goal

abbrev pub ghosts-examine_goals_as : goal.ghosts-examine_goals_as
ghosts-examine_goals_as a = record { goals = a.goals.now }
