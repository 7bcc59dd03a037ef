-- What each of the two meshes gives: how its vertices and edges are named, how often each is prescribed, and the copies.
use Rattle.std.specs.Prelude.{ℕ, ℤ, List, length, map}
use Rattle.std.specs.List.{flat_map}
use Rattle.side_terms.specs.Points.{points_of}
use Rattle.side_terms.specs.Prescribed.{Prescription, copies_of, hit_number_of, prescribed_hits, prescribed_vertices, p_number, q_number}
use Rattle.mb_base.specs.declared.op.Op.{Op}
use Rattle.mb_base.specs.declared.point.Corner.{Corner}
use Rattle.mb_base.specs.declared.results.Hit.{Hit}
use Rattle.mb_base.specs.declared.results.Origin.{Origin}
use Rattle.mb_base.specs.declared.results.Origin.TheVariants.{PVertex, QVertex, PEdge, QEdge}
use Rattle.retained_verts.specs.declared.operand.Operand.{Operand}
use Rattle.retained_verts.specs.declared.operand.Operand.TheVariants.{P, Q}

-- a vertex of a mesh
abbrev pub vertex_origin : Operand → ℕ → Origin
vertex_origin P v = PVertex v
vertex_origin Q v = QVertex v

-- an edge of a mesh with a face of the other
abbrev pub edge_origin : Operand → ℕ → ℕ → Origin
edge_origin P e f = PEdge e f
edge_origin Q e f = QEdge e f

-- how often a vertex with a winding number is prescribed
abbrev pub vertex_number : Op → Operand → ℤ → ℤ
vertex_number op P w = p_number op w
vertex_number op Q w = q_number op w

-- the vertices of a mesh with their numbers and points
abbrev pub vertices_of : Op → Operand → List Corner → List ℤ → List Prescription
vertices_of op operand corners ws = prescribed_vertices (vertex_origin operand) (vertex_number op operand) ws (points_of corners) (length corners)

-- the crossings of a mesh's edges
abbrev pub crossings_of : Op → Operand → List Hit → List Prescription
crossings_of op operand hs = prescribed_hits (edge_origin operand) (hit_number_of op) hs

-- where their copies come from, and where they lie
abbrev pub origins_of : List Prescription → List Origin
origins_of is = map (λ c. c.origin) (flat_map copies_of is)

abbrev pub places_of : List Prescription → List (List ℤ)
places_of is = map (λ c. c.point) (flat_map copies_of is)
