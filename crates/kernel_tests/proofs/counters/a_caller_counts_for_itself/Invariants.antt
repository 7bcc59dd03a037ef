use Rattle.kernel_tests.proofs.counters.a_caller_counts_for_itself.Given as goal

abbrev pub ghosts-count_two : goal.ghosts-count_two
ghosts-count_two a = record { name = a.blank.name; parts = a.blank.parts }
