use Rattle.mesh_terms.specs.Meshes.{triples_of}
use Rattle.face_plane.specs.Planes.{Plane}
use Rattle.ring_cutting.specs.Placed.{vertices_of, IsPlaced}
use Rattle.ring_cutting.specs.Left.{left_of}
use Rattle.ring_cutting.specs.Spans.{HasHulls}
use Rattle.ring_cutting.proofs.UnderWay.{IsUnderWay}
use Rattle.ring_cutting.proofs.LongCuts.{IsLongCut}
use Rattle.ring_cutting.proofs.long.cut_long.Given as goal

-- the places left are a ring, whose cutting completes the whole one
abbrev pub invariant-loop-left : goal.invariant-loop-left
invariant-loop-left l = record {
  keeps : IsLongCut l.places l.links.after.items l.links.before.items l.links.living.items l.doubts.doubtful l.doubts.waiting.items l.first
      l.left l.forced;
  hulls : HasHulls l.places l.links.living.items l.hulls;
  goes : (at : Plane) → IsPlaced at l.places →
      IsUnderWay at (vertices_of l.places) (left_of l.links.living.items l.places) (triples_of l.triples.items) l.forced;
}

abbrev pub decreases-loop-left : goal.decreases-loop-left
decreases-loop-left l = l.left
