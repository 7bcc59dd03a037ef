use Rattle.program_tests.proofs.runs.faults.is_silent.Given as goal

abbrev pub ghosts-status_on : goal.ghosts-status_on
ghosts-status_on g a = record { name = a.blank.name; parts = a.blank.parts }
