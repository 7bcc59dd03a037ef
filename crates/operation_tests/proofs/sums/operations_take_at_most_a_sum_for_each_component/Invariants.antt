use Rattle.operation_tests.proofs.sums.operations_take_at_most_a_sum_for_each_component.Given as goal

-- the ledger is that of the blank
abbrev pub ghosts-done_from : goal.ghosts-done_from
ghosts-done_from g a = record { name = a.blank.name; parts = a.blank.parts }
