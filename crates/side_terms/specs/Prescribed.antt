-- Prescribed vertices: how often each vertex and each hit is prescribed, and the copies in order.
use Rattle.std.specs.Prelude.{ℕ, ◌+◌, ◌*◌, ℤ, pos, ◌+ℤ◌, ◌*ℤ◌, List, [], ◌++◌, map, replicate, length, get_or, nat_abs, int_lt, count_by}
use Rattle.std.specs.List.{flat_map, sum_by}
use Rattle.chain_terms.specs.Sums.{upto}
use Rattle.mesh_terms.specs.Meshes.{Triple, has}
use Rattle.mb_base.specs.Op.{constants_of}
use Rattle.mb_base.specs.declared.op.Op.{Op}
use Rattle.mb_base.specs.declared.results.Hit.{Hit}
use Rattle.mb_base.specs.declared.results.Origin.{Origin}
use Rattle.mb_base.specs.declared.results.Origin.TheVariants.{PVertex, QVertex, PEdge, QEdge}
use Rattle.side_terms.specs.Sides.{Side}
use Rattle.side_terms.specs.Lists.{Copy}
use Rattle.side_terms.specs.Points.{points_of}

-- winding numbers of all vertices of P in Q and of Q in P, and the hits of the edges of each with the faces of the other
pub record Numbers : Type 0 where
  pub w03 : List ℤ
  pub w30 : List ℤ
  pub x12 : List Hit
  pub x21 : List Hit

-- one of the three constants of an operation
abbrev pub constant : Op → ℕ → ℤ
constant op i = get_or (constants_of op) i (pos 0)

-- how often a vertex of P with a winding number is prescribed, one of Q, and a hit with a number of crossings
abbrev pub p_number : Op → ℤ → ℤ
p_number op w = constant op 0 +ℤ constant op 2 *ℤ w

abbrev pub q_number : Op → ℤ → ℤ
q_number op w = constant op 1 +ℤ constant op 2 *ℤ w

abbrev pub hit_number_of : Op → ℤ → ℤ
hit_number_of op n = constant op 2 *ℤ n

-- a vertex or a hit, how often it is prescribed, and its point
pub record Prescription : Type 0 where
  pub origin : Origin
  pub number : ℤ
  pub point : List ℤ

-- the first n vertices with their winding numbers and points
abbrev pub prescribed_vertices : (ℕ → Origin) → (ℤ → ℤ) → List ℤ → List (List ℤ) → ℕ → List Prescription
prescribed_vertices origin number ws points n = map (λ v. record { origin = origin v; number = number (get_or ws v (pos 0)); point = get_or points v [] }) (upto n)

-- hits in their order
abbrev pub prescribed_hits : (ℕ → ℕ → Origin) → (ℤ → ℤ) → List Hit → List Prescription
prescribed_hits origin number hs = map (λ h. record { origin = origin h.edge h.face; number = number h.number; point = h.at }) hs

abbrev pub p_vertices : Op → Side → Numbers → List Prescription
p_vertices op p n = prescribed_vertices PVertex (p_number op) n.w03 (points_of p.corners) (length p.corners)

abbrev pub q_vertices : Op → Side → Numbers → List Prescription
q_vertices op q n = prescribed_vertices QVertex (q_number op) n.w30 (points_of q.corners) (length q.corners)

abbrev pub p_hits : Op → Numbers → List Prescription
p_hits op n = prescribed_hits PEdge (hit_number_of op) n.x12

abbrev pub q_hits : Op → Numbers → List Prescription
q_hits op n = prescribed_hits QEdge (hit_number_of op) n.x21

-- one of the copies
abbrev pub copy_of : Prescription → Copy
copy_of i = record { origin = i.origin; negative = int_lt i.number (pos 0); point = i.point }

-- as many as the size of the number
abbrev pub copies_of : Prescription → List Copy
copies_of i = replicate (nat_abs i.number) (copy_of i)

-- the prescribed vertices in order, copies together
abbrev pub prescribed : Op → Side → Side → Numbers → List Copy
prescribed op p q n = flat_map copies_of (p_vertices op p n ++ (q_vertices op q n ++ (p_hits op n ++ q_hits op n)))

-- how many of them are vertices with such winding numbers, and how many are such hits
abbrev pub vertex_count : (ℤ → ℤ) → List ℤ → ℕ
vertex_count number ws = sum_by (λ w. nat_abs (number w)) ws

abbrev pub hit_count : Op → List Hit → ℕ
hit_count op hs = sum_by (λ h. nat_abs (hit_number_of op h.number)) hs

-- the vertices that are kept of P and of Q, and the crossings
abbrev pub p_kept : Op → Numbers → ℕ
p_kept op n = vertex_count (p_number op) n.w03

abbrev pub q_kept : Op → Numbers → ℕ
q_kept op n = vertex_count (q_number op) n.w30

abbrev pub crossing_count : Op → Numbers → ℕ
crossing_count op n = hit_count op n.x12 + hit_count op n.x21

-- how many triangles have the vertex
abbrev pub triples_at : List Triple → ℕ → ℕ
triples_at ts v = count_by (λ t. has t v) ts

-- the size of each vertex's number times the triangles at it, added up
abbrev pub vertex_halfedges : (ℤ → ℤ) → List ℤ → List Triple → ℕ
vertex_halfedges number ws ts = sum_by (λ v. nat_abs (number (get_or ws v (pos 0))) * triples_at ts v) (upto (length ws))

-- the prescribed half-edges: those of the vertices, and three for each crossing
abbrev pub prescribed_halfedges : Op → Side → Side → Numbers → ℕ
prescribed_halfedges op p q n = vertex_halfedges (p_number op) n.w03 p.triples + vertex_halfedges (q_number op) n.w30 q.triples + 3 * crossing_count op n
