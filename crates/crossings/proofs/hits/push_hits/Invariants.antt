use Rattle.std.proofs.Common.{◌≡◌, ◌++◌, take}
use Rattle.mb_base.specs.Boxes.{box_of}
use Rattle.side_terms.specs.Sides.{edge_at, face_boxes}
use Rattle.box_tree.specs.Touching.{touching_numbers}
use Rattle.crossings.specs.Near.{hits_with}
use Rattle.crossings.proofs.hits.push_hits.Given as goal

abbrev pub invariant-loop-face : goal.invariant-loop-face
invariant-loop-face g l = record {
  hits : l.hits.items ≡ l.fn.hits.items ++ hits_with (g.C.EdgeFace.crossing_of l.pairs) l.edges l.faces l.half (take l.face-index l.face-items);
  near : l.face-items ≡ touching_numbers (face_boxes l.faces) (box_of (edge_at l.edges l.half));
}
