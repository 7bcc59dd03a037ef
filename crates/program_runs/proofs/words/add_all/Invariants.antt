use Rattle.std.proofs.Common.{◌≡◌, ◌++◌, map, string_bytes}
use Rattle.std.specs.Vec.Iter.{into_iter_items, into_iter_len}
use Rattle.program_runs.proofs.words.add_all.Given as goal

-- what was added and what is still to come are all that were to come
abbrev pub invariant-loop-word : goal.invariant-loop-word
invariant-loop-word l = l.list ++ map string_bytes (into_iter_items l.rest) ≡ l.initial.list ++ map string_bytes (into_iter_items l.initial.rest)

abbrev pub decreases-loop-word : goal.decreases-loop-word
decreases-loop-word l = into_iter_len l.rest
