use Rattle.std.proofs.Common.{false, get_or, map, ◌≡◌}
use Rattle.plane_chains.specs.Listed.{marks_of}
use Rattle.plane_chains.proofs.KeptLists.{unmarked_list, with_side}
use Rattle.plane_chains.proofs.telling.kept_of.Given as goal

abbrev pub invariant-loop-i : goal.invariant-loop-i
invariant-loop-i l = l.out.items ≡ map (with_side (λ j. get_or (marks_of l.faces.fronts.now l.faces.numbers.now) j false)) (unmarked_list l.marks l.i)
