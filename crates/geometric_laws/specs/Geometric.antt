-- How often an operation prescribes the vertices of two meshes, by the geometric winding numbers of those that lie in no triangle of the other mesh.
use Rattle.std.specs.Prelude.{◌≡◌, ◌<◌, ℕ, ◌==◌, ℤ, Bool, false, List, [], filter, get_or, length}
use Rattle.mb_base.specs.declared.op.Op.{Op}
use Rattle.mb_base.specs.declared.results.Origin.{Origin}
use Rattle.mb_base.specs.declared.results.Origin.TheVariants.{PVertex, QVertex, PEdge, QEdge}
use Rattle.mesh_terms.specs.Meshes.{Mesh}
use Rattle.mesh_terms.specs.Points.{coordinate_of}
use Rattle.plane_laws.specs.Decisions.{Vector}
use Rattle.solid_terms.specs.Solids.{IsClearOfAll, IsOffFaces, solid_winding}
use Rattle.side_terms.specs.Lists.{Copy}
use Rattle.side_terms.specs.Prescribed.{copies_of, p_number, q_number}
use Rattle.mesh_boolean.specs.Operation.{reduced_mesh}

-- where a point is
abbrev pub place_of : List ℤ → Vector
place_of p = record { x = coordinate_of p 0; y = coordinate_of p 1; z = coordinate_of p 2 }

-- where the points of a mesh are, by their numbers
abbrev pub places_in : Mesh → ℕ → Vector
places_in m i = place_of (get_or m.points i [])

-- there is an apex of which a place is clear, and from each such apex the number of times that the mesh winds round the place is one of these
pub record HasNumber (p : Vector) (m : Mesh) (Fits : ℤ → Type 0) : Type 0 where
  pub apex : Vector
  pub clear : IsClearOfAll p apex (places_in m) m.triples
  pub each : (o : Vector) → IsClearOfAll p o (places_in m) m.triples → Fits (solid_winding p o (places_in m) m.triples)

-- where the place lies in no closed triangle of the mesh
abbrev pub HasNumberOff : Vector → Mesh → (ℤ → Type 0) → Type 0
HasNumberOff p m Fits = IsOffFaces p (places_in m) m.triples → HasNumber p m Fits

-- whether a copy is one of this vertex of P
abbrev pub is_of_p : ℕ → Origin → Bool
is_of_p v (PVertex w) = w == v
is_of_p v (QVertex w) = false
is_of_p v (PEdge e f) = false
is_of_p v (QEdge e f) = false

-- of this vertex of Q
abbrev pub is_of_q : ℕ → Origin → Bool
is_of_q v (PVertex w) = false
is_of_q v (QVertex w) = w == v
is_of_q v (PEdge e f) = false
is_of_q v (QEdge e f) = false

-- of prescribed vertices, those that are copies of vertex v of the first mesh, reduced, are as many at its point as the number says, turned over where it is below 0
abbrev pub IsKeptOfP : Mesh → ℕ → List Copy → ℤ → Type 0
IsKeptOfP m v cs n = filter (λ c. is_of_p v c.origin) cs ≡ copies_of (record { origin = PVertex v; number = n; point = get_or m.points v [] })

-- the same for a vertex of the second mesh
abbrev pub IsKeptOfQ : Mesh → ℕ → List Copy → ℤ → Type 0
IsKeptOfQ m v cs n = filter (λ c. is_of_q v c.origin) cs ≡ copies_of (record { origin = QVertex v; number = n; point = get_or m.points v [] })

-- each vertex of one reduced mesh that lies in no closed triangle of the other is prescribed as often as the operation says for its geometric winding number
pub record IsGeometric (op : Op) (p q : Mesh) (cs : List Copy) : Type 0 where
  pub first : (v : ℕ) → v < length (reduced_mesh p).points
      → HasNumberOff (places_in (reduced_mesh p) v) (reduced_mesh q) (λ w. IsKeptOfP (reduced_mesh p) v cs (p_number op w))
  pub second : (v : ℕ) → v < length (reduced_mesh q).points
      → HasNumberOff (places_in (reduced_mesh q) v) (reduced_mesh p) (λ w. IsKeptOfQ (reduced_mesh q) v cs (q_number op w))
