use Rattle.std.proofs.Common.{◌≡◌, take}
use Rattle.side_terms.specs.Conservation.{hit_number}
use Rattle.operation_tests.proofs.faces.conserved.hit_number.Given as goal

-- the number that the hits so far give
abbrev pub invariant-loop-i : goal.invariant-loop-i
invariant-loop-i l = l.sum ≡ hit_number (take l.i l.hits) l.edge l.face
