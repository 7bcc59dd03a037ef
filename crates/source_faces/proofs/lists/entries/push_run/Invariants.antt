use Rattle.std.proofs.Common.{◌≡◌, ◌++◌}
use Rattle.source_faces.specs.Entries.{run_entries}
use Rattle.source_faces.proofs.lists.entries.push_run.Given as goal

abbrev pub invariant-loop-i : goal.invariant-loop-i
invariant-loop-i l =
    l.entries.items ≡ l.fn.entries.items ++ run_entries (record { first = l.run.first; count = l.i; negative = l.run.negative }) l.at_start
