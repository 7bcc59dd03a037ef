use Rattle.program_tests.proofs.runs.words.tells.Given as goal

abbrev pub ghosts-wordless : goal.ghosts-wordless
ghosts-wordless g a = record { name = a.blank.name; parts = a.blank.parts }
