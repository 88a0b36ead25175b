use Rattle.allocation_faults.proofs.living.try_live.Given as goal

abbrev pub ghosts-drive : goal.ghosts-drive
ghosts-drive g a = record { name = a.blank.name; parts = a.blank.parts }
