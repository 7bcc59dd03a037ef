-- An operation on two closed meshes, as a total function of what its shadow tests answer.
use Rattle.std.specs.Prelude.{ℕ, ℤ, List, [], ◌∷◌, ◌++◌, false, map, length, replicate}
use Rattle.mb_base.specs.declared.op.Op.{Op}
use Rattle.mesh_terms.specs.Labels.{label_at}
use Rattle.mesh_terms.specs.Meshes.{Mesh, Triple}
use Rattle.mesh_check.specs.Reduced.{reduced}
use Rattle.side_terms.specs.Sides.{Side, side_of}
use Rattle.lean.specs.Leans.{leans_of}
use Rattle.shadow_kernels.specs.ShadowLaws.{ShadowTest}
use Rattle.crossings.specs.Hits.{CrossingTest, hits_of}
use Rattle.winding.specs.Windings.{winding, winding_back}
use Rattle.side_terms.specs.Lists.{Copy}
use Rattle.side_terms.specs.Prescribed.{Numbers, crossing_count, p_kept, prescribed, prescribed_halfedges, q_kept}
use Rattle.pinch_split.specs.Split.{split_from, split_points, split_triples}
use Rattle.source_face_terms.specs.Filled.{all_filled, all_triples, forced_of, points_of_copies, sources_of}

-- what an operation asks of its kernels: the tests of a vertex of P and a face of Q, of a face and a vertex, of an edge and a
-- face, and of a face and an edge
pub record Tests : Type 0 where
  pub vertex_face : ShadowTest
  pub face_vertex : ShadowTest
  pub edge_face : CrossingTest
  pub face_edge : CrossingTest

-- the reduced mesh
abbrev pub reduced_mesh : Mesh → Mesh
reduced_mesh m = let s = reduced m.points m.triples m.labels in record { points = s.points; triples = s.triples; labels = s.labels }

-- the labels of the source faces of an operation: of those of the first reduced mesh, then of those of the second
abbrev pub face_labels : Mesh → Mesh → List (List ℕ)
face_labels p q = (reduced_mesh p).labels ++ (reduced_mesh q).labels

-- the first mesh with its marks, the second with none
abbrev pub p_side : Op → Mesh → Side
p_side op m = side_of m (leans_of op m)

abbrev pub q_side : Mesh → Side
q_side m = side_of m (replicate (length m.points) (false ∷ false ∷ false ∷ []))

-- the winding numbers of all corners, and the hits
abbrev pub numbers_of : Tests → Side → Side → Numbers
numbers_of t p q =
    record {
      w03 = map (λ c. winding t.vertex_face c q) p.corners;
      w30 = map (λ c. winding_back t.face_vertex p c) q.corners;
      x12 =
          hits_of t.edge_face p q;
      x21 = hits_of (λ edge face. t.face_edge face edge) q p;
    }

-- a mesh, the vertices that it is made of, which of these each of its points is, and the source face of each triangle
pub record Outcome : Type 0 where
  pub points : List (List ℤ)
  pub triples : List Triple
  pub labels : List (List ℕ)
  pub copies : List Copy
  pub p_kept : ℕ
  pub q_kept : ℕ
  pub crossings : ℕ
  pub halfedges : ℕ
  pub from : List ℕ
  pub source : List ℕ
  pub forced : ℕ

-- the outcome of two sides with numbers: the fillings of all source faces, which have these labels, with one vertex for each fan
abbrev pub outcome_of : List (List ℕ) → Op → Side → Side → Numbers → Outcome
outcome_of labels op p q n =
    let cs = prescribed op p q n in
    let parts = all_filled p q cs in
    let points = points_of_copies cs in
    let ts = all_triples parts in
    record {
      points = split_points points ts;
      triples = split_triples (length cs) ts;
      labels = map (label_at labels) (sources_of 0 parts);
      copies =
          cs;
      p_kept = p_kept op n;
      q_kept = q_kept op n;
      crossings = crossing_count op n;
      halfedges = prescribed_halfedges op p q n;
      from =
          split_from (length cs) ts;
      source = sources_of 0 parts;
      forced = forced_of parts;
    }

-- the sides of an operation: both meshes reduced
abbrev pub first_side : Op → Mesh → Side
first_side op m = p_side op (reduced_mesh m)

abbrev pub second_side : Mesh → Side
second_side m = q_side (reduced_mesh m)

-- an operation on two meshes
abbrev pub operation : Tests → Op → Mesh → Mesh → Outcome
operation t op p q = outcome_of (face_labels p q) op (first_side op p) (second_side q) (numbers_of t (first_side op p) (second_side q))
