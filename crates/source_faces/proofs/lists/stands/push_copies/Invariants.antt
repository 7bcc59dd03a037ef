use Rattle.std.proofs.Common.{◌≡◌, ◌++◌}
use Rattle.source_faces.specs.Stands.{copy_stands}
use Rattle.source_faces.proofs.lists.stands.push_copies.Given as goal

abbrev pub invariant-loop-i : goal.invariant-loop-i
invariant-loop-i l =
    l.stands.items ≡
    l.fn.stands.items ++ copy_stands l.bases.edges l.bases.faces l.crossing.lower l.crossing.upper l.crossing.face l.crossing.positive l.first l.i
