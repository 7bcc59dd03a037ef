-- What triangles are compared with: numbers, and the vertices that these prescribe.
use Rattle.std.specs.Prelude.{◌≡◌, ℕ, ◌+◌, ◌<◌, ◌≤◌, List, ◌∷◌, [], map, length}
use Rattle.mb_base.specs.declared.op.Op.{Op}
use Rattle.mb_base.specs.declared.results.Hits.{Hits}
use Rattle.mb_base.specs.declared.results.Windings.{Windings}
use Rattle.mesh_terms.specs.Limits.{most_points}
use Rattle.side_terms.specs.Sides.{Side}
use Rattle.side_terms.specs.Lists.{Copy}
use Rattle.side_terms.specs.Prescribed.{p_kept, q_kept}
use Rattle.source_faces.specs.declared.lists.runs.CopyRange.{CopyRange}
use Rattle.source_faces.specs.declared.lists.stands.Stand.{Stand}
use Rattle.source_faces.specs.Agreement.{records_of}
use Rattle.source_faces.specs.ListParts.{segments_by}
use Rattle.source_face_terms.specs.Filled.{face_segments, points_of_copies}
use Rattle.retained_verts.specs.Handed.{AreBalanced, FitSides, copies, numbers}
use Rattle.retained_verts.specs.declared.list.Prescribed.{Prescribed}
use Rattle.source_faces.specs.Given.{given_p_runs, given_q_runs, given_stands}
use Rattle.mesh_boolean.specs.BoundedFaces.{HaveSegments}

-- windings and hits of two sides, and the vertices that they prescribe, which balance every list and are no more than the points of
-- a mesh
pub record AreGiven (op : Op) (p q : Side) (windings : Windings) (hits : Hits) (r : Prescribed) : Type 0 where
  pub fit : FitSides p q windings hits
  pub points : r.points.items ≡ map (λ c. c.point) (copies op p q windings hits)
  pub kept : r.kept ≡ p_kept op (numbers windings hits) ∷ q_kept op (numbers windings hits) ∷ []
  pub balance : AreBalanced op p q windings hits
  pub few : length (copies op p q windings hits) ≤ most_points

-- the faces of both sides have their segments from runs and records, P's first
pub record HaveAllSegments (p q : Side) (cs : List Copy) (p_runs q_runs : List CopyRange) (stands : List Stand) : Type 0 where
  pub p_faces : HaveSegments p p_runs (points_of_copies cs) 0 stands
  pub q_faces : HaveSegments q q_runs (points_of_copies cs) (length p.triples) stands
  pub p_same : (f : ℕ) → f < length p.triples → segments_by p p_runs (points_of_copies cs) f (records_of stands (0 + f)) ≡ face_segments p q cs f
  pub q_same : (g : ℕ) → g < length q.triples →
      segments_by q q_runs (points_of_copies cs) g (records_of stands (length p.triples + g)) ≡ face_segments p q cs (length p.triples + g)

-- so they have them from the runs and records of what is given
abbrev pub GivenHaveSegments : Op → Side → Side → Windings → Hits → Type 0
GivenHaveSegments op p q windings hits =
    let n = numbers windings hits in HaveAllSegments p q (copies op p q windings hits) (given_p_runs op n) (given_q_runs op n) (given_stands op p q n)
