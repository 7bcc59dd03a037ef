use Rattle.kernel_tests.proofs.windings.stacks.row_holds.Given as goal

abbrev pub ghosts-stacked : goal.ghosts-stacked
ghosts-stacked g a = record { name = a.blank.name; parts = a.blank.parts }
