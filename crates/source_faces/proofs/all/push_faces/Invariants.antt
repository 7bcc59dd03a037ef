use Rattle.std.proofs.Common.{◌≡◌, ◌≤◌, ◌+◌, length}
use Rattle.source_faces.specs.Groups.{earlier}
use Rattle.source_faces.specs.Parts.{AreAdded, parts_of}
use Rattle.source_faces.proofs.all.push_faces.Given as goal

-- the faces so far are added, and the records of the next one come next
abbrev pub invariant-loop-face : goal.invariant-loop-face
invariant-loop-face l = record {
  next : l.begin ≡ earlier l.stands (l.first + l.face);
  added : AreAdded l.first (parts_of l.side l.runs l.points l.first l.stands l.face) l.fn.all l.all;
  few : l.all.forced ≤ length l.all.triples.items;
}
