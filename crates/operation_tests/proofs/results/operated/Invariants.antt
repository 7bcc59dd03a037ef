use Rattle.operation_tests.proofs.results.operated.Given as goal

-- the ledger is that of the blank
abbrev pub ghosts-answer : goal.ghosts-answer
ghosts-answer g a = record { name = a.blank.name; parts = a.blank.parts }
