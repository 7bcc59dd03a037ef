-- What the result of an operation is: the prescribed vertices and numbers, where the vertices and the triangles of the mesh come
-- from, that each source face's triangles are bounded by its segments, that the mesh is clean, and which triangles and labels it has.
use Rattle.std.specs.Prelude.{◌≡◌, ◌≢◌, ℕ, ◌<◌, List, map, length}
use Rattle.std.specs.List.{All}
use Rattle.chain_terms.specs.Chains.{IsClosed, all_edges, boundary}
use Rattle.chain_terms.specs.Ranks.{finish, start, twin}
use Rattle.mesh_terms.specs.Labels.{label_at}
use Rattle.mesh_terms.specs.Meshes.{HasThree, Mesh, Triple}
use Rattle.mesh_terms.specs.Twins.{twins_of}
use Rattle.halfedge.specs.Clean.{IsClean}
use Rattle.side_terms.specs.Sides.{Side}
use Rattle.side_terms.specs.Lists.{Copy}
use Rattle.mb_base.specs.declared.op.Op.{Op}
use Rattle.side_terms.specs.Prescribed.{Numbers, prescribed as copies_of_numbers, prescribed_halfedges}
use Rattle.side_terms.specs.Standing.{AreConserved}
use Rattle.source_face_terms.specs.Segments.{source_count}
use Rattle.source_face_terms.specs.Filled.{all_filled, all_triples, face_segments, forced_of, points_of_copies, sources_of}
use Rattle.pinch_split.specs.Back.{ComeFrom, named_by}
use Rattle.pinch_split.specs.Split.{split_from, split_points, split_triples}
use Rattle.retained_verts.specs.Listed.{ArePrescribed}
use Rattle.mesh_boolean.specs.Picked.{triples_of_face}
use Rattle.mesh_boolean.specs.Operation.{Tests, face_labels, first_side, numbers_of, second_side}
use Rattle.mesh_boolean.specs.declared.outcome.Outcome.{Outcome}

-- those over prescribed vertices
abbrev pub face_triples : List ℕ → List ℕ → List Triple → ℕ → List Triple
face_triples from source ts x = map (named_by from) (triples_of_face x source ts)

-- each triangle has a source face; over prescribed vertices the triangles of each face have three different ones and are
-- bounded by the segments of that face
pub record AreBounded (p q : Side) (cs : List Copy) (from source : List ℕ) (ts : List Triple) : Type 0 where
  pub each : length source ≡ length ts
  pub faces : All (λ x. x < source_count p q) source
  pub three : (x : ℕ) → All HasThree (face_triples from source ts x)
  pub bounded : (x : ℕ) → x < source_count p q → (a b : ℕ) → boundary (all_edges (face_triples from source ts x)) a b ≡ boundary (face_segments p q cs x) a b

-- the twin of each half-edge is another one, which runs back and has it as its twin
pub record ArePaired (es : List (ℕ × ℕ)) : Type 0 where
  pub within : (h : ℕ) → h < length es → twin es h < length es
  pub another : (h : ℕ) → h < length es → twin es h ≢ h
  pub back : (h : ℕ) → h < length es → (start es (twin es h) ≡ finish es h) × (finish es (twin es h) ≡ start es h)
  pub again : (h : ℕ) → h < length es → twin es (twin es h) ≡ h

-- the mesh is closed, its half-edges are paired, each of its vertices has one fan, and each half-edge has the twin that it has
-- over prescribed vertices
pub record IsCleanOver (from : List ℕ) (ts : List Triple) : Type 0 where
  pub closed : IsClosed (all_edges ts)
  pub paired : ArePaired (all_edges ts)
  pub clean : IsClean (all_edges ts)
  pub twins : twins_of ts ≡ twins_of (map (named_by from) ts)

-- the triangles are the fillings of the faces' loops in order, over one vertex for each fan
pub record AreFilled (p q : Side) (cs : List Copy) (mesh : Mesh) (old face : List ℕ) (count : ℕ) : Type 0 where
  pub points : mesh.points ≡ split_points (points_of_copies cs) (all_triples (all_filled p q cs))
  pub triples : mesh.triples ≡ split_triples (length cs) (all_triples (all_filled p q cs))
  pub from : old ≡ split_from (length cs) (all_triples (all_filled p q cs))
  pub source : face ≡ sources_of 0 (all_filled p q cs)
  pub forced : count ≡ forced_of (all_filled p q cs)

-- the numbers of two meshes, and the copies that they prescribe
abbrev pub numbers_in : Tests → Op → Mesh → Mesh → Numbers
numbers_in t op p q = numbers_of t (first_side op p) (second_side q)

abbrev pub copies_in : Tests → Op → Mesh → Mesh → List Copy
copies_in t op p q = copies_of_numbers op (first_side op p) (second_side q) (numbers_in t op p q)

-- the half-edges that are prescribed for an operation on two meshes
abbrev pub halfedges_in : Tests → Op → Mesh → Mesh → ℕ
halfedges_in t op p q = prescribed_halfedges op (first_side op p) (second_side q) (numbers_in t op p q)

-- winding numbers change along the half-edges of both by their signed crossings, and these agree for each pair of faces
abbrev pub ConserveIn : Tests → Op → Mesh → Mesh → Type 0
ConserveIn t op p q = AreConserved (first_side op p) (second_side q) (numbers_in t op p q)

-- each clause for what an operation on two meshes gives
abbrev pub IsPrescribed : Tests → Op → Mesh → Mesh → Outcome → Type 0
IsPrescribed t op p q r = ArePrescribed op (first_side op p) (second_side q) (numbers_in t op p q) r.prescribed

abbrev pub HasOrigins : Outcome → Type 0
HasOrigins r = ComeFrom r.mesh.points r.prescribed.points.items r.from.items

abbrev pub IsBounded : Tests → Op → Mesh → Mesh → Outcome → Type 0
IsBounded t op p q r = AreBounded (first_side op p) (second_side q) (copies_in t op p q) r.from.items r.source.items r.mesh.triples

abbrev pub IsFilled : Tests → Op → Mesh → Mesh → Outcome → Type 0
IsFilled t op p q r = AreFilled (first_side op p) (second_side q) (copies_in t op p q) r.mesh r.from.items r.source.items r.forced

-- each triangle has the label of its source face
abbrev pub IsLabelled : Mesh → Mesh → Outcome → Type 0
IsLabelled p q r = r.mesh.labels ≡ map (label_at (face_labels p q)) r.source.items
