use Rattle.std.proofs.Common.{◌≡◌, ◌+◌}
use Rattle.source_faces.specs.Groups.{earlier}
use Rattle.operation_tests.proofs.faces.words.push_side.Given as goal

-- the records of the next face come next
abbrev pub invariant-loop-face : goal.invariant-loop-face
invariant-loop-face l = l.begin ≡ earlier l.stands (l.first + l.face)
