use Rattle.std.proofs.Common.{◌≡◌, take}
use Rattle.std.specs.Cmp.Lexicographic.{pointwise}
use Rattle.std.specs.List.{All}
use Rattle.std.specs.Ordering.{int_eq}
use Rattle.mesh_terms.specs.Points.{IsPoint}
use Rattle.sheet_terms.specs.Places.{firsts}
use Rattle.edge_cutting.proofs.Numbered.{numbers}
use Rattle.edge_cutting.proofs.Welded.{likeness}
use Rattle.edge_cutting.proofs.places.places_of.Given as goal

-- the points so far are welded
abbrev pub invariant-loop-point : goal.invariant-loop-point
invariant-loop-point l = record {
  keys : l.seen.keys ≡ firsts (pointwise int_eq) (take l.point-index l.points);
  firsts : l.firsts.items ≡ firsts (pointwise int_eq) (take l.point-index l.points);
  of : l.of.items ≡ numbers (pointwise int_eq) likeness (take l.point-index l.points);
  grid : All IsPoint (take l.point-index l.points);
}
