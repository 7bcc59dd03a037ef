use Rattle.kernel_tests.proofs.windings.has_numbers.Given as goal

abbrev pub ghosts-number_from : goal.ghosts-number_from
ghosts-number_from a = record { name = a.blank.name; parts = a.blank.parts }
