-- What the numbers of two sides are known to be, and what is assembled from them.
use Rattle.std.specs.Prelude.{◌≡◌, ℕ, ◌*◌, ◌<◌, ◌≤◌, List, length, map}
use Rattle.mb_base.specs.declared.op.Op.{Op}
use Rattle.mb_base.specs.declared.results.Hits.{Hits}
use Rattle.mb_base.specs.declared.results.Windings.{Windings}
use Rattle.mesh_terms.specs.Labels.{no_labels}
use Rattle.mesh_terms.specs.Meshes.{IsAccepted, Mesh, triples_of}
use Rattle.pinch_split.specs.Back.{ComeFrom, named_by}
use Rattle.pinch_split.specs.Split.{split_from, split_points, split_triples}
use Rattle.side_terms.specs.Sides.{Side}
use Rattle.side_terms.specs.Lists.{Copy}
use Rattle.side_terms.specs.Prescribed.{Numbers, prescribed as copies_of_numbers}
use Rattle.side_terms.specs.Standing.{AreConserved}
use Rattle.retained_verts.specs.Handed.{FitSides, numbers}
use Rattle.retained_verts.specs.declared.list.Prescribed.{Prescribed}
use Rattle.source_face_terms.specs.Segments.{source_count}
use Rattle.source_face_terms.specs.Assembling.{FillFace}
use Rattle.source_face_terms.specs.Filled.{all_filled, all_triples, filled_face, forced_of, sources_of}
use Rattle.source_faces.specs.declared.triangles.SourceTriangles.{SourceTriangles}
use Rattle.mesh_boolean.specs.Operation.{Tests, first_side, second_side}
use Rattle.retained_verts.specs.Listed.{ArePrescribed}
use Rattle.mesh_boolean.specs.Results.{IsCleanOver, numbers_in}
use Rattle.mesh_boolean.specs.declared.outcome.Outcome.{Outcome}

-- windings and hits that fit two sides, all conserved
pub record AreNumbers (p q : Side) (windings : Windings) (hits : Hits) : Type 0 where
  pub fit : FitSides p q windings hits
  pub conserved : AreConserved p q (numbers windings hits)

-- each filling is one of its source face
abbrev pub AreFillings : Side → Side → List Copy → Type 0
AreFillings p q cs = (x : ℕ) → x < source_count p q → FillFace p q cs x (filled_face p q cs x)

-- the prescribed vertices, and the fillings of all source faces: a closed mesh of these vertices, with at most five triangles
-- for three half-edges
pub record IsAssembled (op : Op) (p q : Side) (n : Numbers) (r : Prescribed) (all : SourceTriangles) : Type 0 where
  pub prescribed : ArePrescribed op p q n r
  pub triples : triples_of all.triples.items ≡ all_triples (all_filled p q (copies_of_numbers op p q n))
  pub source : all.source.items ≡ sources_of 0 (all_filled p q (copies_of_numbers op p q n))
  pub forced : all.forced ≡ forced_of (all_filled p q (copies_of_numbers op p q n))
  pub fillings : AreFillings p q (copies_of_numbers op p q n)
  pub accepted : IsAccepted (length r.points.items) (triples_of all.triples.items)
  pub few : 3 * length all.triples.items ≤ 5 * r.halfedges

-- what is assembled of two meshes: of their sides, and of the numbers that the tests give for these
abbrev pub IsOfMeshes : Tests → Op → Mesh → Mesh → Prescribed → SourceTriangles → Type 0
IsOfMeshes t op m k r all = IsAssembled op (first_side op m) (second_side k) (numbers_in t op m k) r all

-- the mesh of what was assembled, with one vertex for each fan and without labels: each vertex lies where the prescribed one lies
-- that it comes from, over these the triangles are those that were assembled, and the mesh is clean
pub record IsSplit (r : Prescribed) (all : SourceTriangles) (o : Outcome) : Type 0 where
  pub points : o.mesh.points ≡ split_points r.points.items (triples_of all.triples.items)
  pub triples : o.mesh.triples ≡ split_triples (length r.points.items) (triples_of all.triples.items)
  pub from : o.from.items ≡ split_from (length r.points.items) (triples_of all.triples.items)
  pub there : ComeFrom o.mesh.points r.points.items o.from.items
  pub back : map (named_by o.from.items) o.mesh.triples ≡ triples_of all.triples.items
  pub clean : IsCleanOver o.from.items o.mesh.triples
  pub few : 2 * length o.mesh.points ≤ 3 * length o.mesh.triples
  pub prescribed : o.prescribed ≡ r
  pub source : o.source ≡ all.source
  pub forced : o.forced ≡ all.forced
  pub empty : o.mesh.labels ≡ no_labels o.mesh.triples
