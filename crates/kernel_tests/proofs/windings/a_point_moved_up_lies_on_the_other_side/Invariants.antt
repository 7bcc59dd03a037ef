use Rattle.kernel_tests.proofs.windings.a_point_moved_up_lies_on_the_other_side.Given as goal

abbrev pub ghosts-sum_from : goal.ghosts-sum_from
ghosts-sum_from g a = record { name = a.blank.name; parts = a.blank.parts }
