-- Oriented triangles as half-edges, and which are left when each goes with one of the other orientation.
use Rattle.std.specs.Prelude.{◌≡◌, ℕ, ◌<◌, ◌≤◌, ◌/◌, ◌%◌, List, Bool, true, nat_le, length, get_or, map}
use Rattle.chain_terms.specs.Chains.{dir}
use Rattle.chain_terms.specs.Sums.{upto}
use Rattle.chain_terms.specs.Ranks.{rank, start, finish, runs_as}
use Rattle.halfedge.specs.Pairing.{Half}
use Rattle.halfedge.specs.Ways.{lesser_end_at}
use Rattle.mesh_terms.specs.Meshes.{Triple}
use Rattle.mesh_check.specs.declared.oriented.Oriented.{Oriented}
use Rattle.mesh_check.specs.Orientations.{edge_of, least_first}

-- the vertices of an oriented triangle
abbrev pub vertices_of : Oriented → Triple
vertices_of o = (o.least, o.second, o.third)

-- its orientation as a half-edge, numbered by its place
abbrev pub as_half : Oriented → Half
as_half o = ((edge_of (vertices_of o)).0, (edge_of (vertices_of o)).1, o.place)

-- the same of each
abbrev pub halves_of : List Oriented → List Half
halves_of os = map as_half os

-- with the other orientation
abbrev pub turned_over : Oriented → Oriented
turned_over o = record { least = o.least; second = o.third; third = o.second; place = o.place }

-- the edge at place h is left when the k-th from a to b goes with the k-th from b to a
abbrev pub is_left : List (ℕ × ℕ) → ℕ → Bool
is_left es h = nat_le (dir es (finish es h) (start es h)) (rank (runs_as es h) es h)

-- the same for each place
abbrev pub left_marks : List (ℕ × ℕ) → List Bool
left_marks es = map (is_left es) (upto (length es))

-- which of n buckets a triple lies in
abbrev pub bucket_of_triple : ℕ → Triple → ℕ
bucket_of_triple n t = (least_first t).0 % n

-- the same from an end of its orientation as an edge: of the two vertices in that number the first is the least
abbrev pub bucket_of_end : ℕ → ℕ → ℕ
bucket_of_end n a = a / 4294967296 % n

-- the marks of the edges in the first k buckets say whether they are left; all others are set
pub record AreMarked (es : List (ℕ × ℕ)) (key : ℕ → ℕ) (k : ℕ) (left : List Bool) : Type 0 where
  pub full : length left ≡ length es
  pub done : (h : ℕ) → h < length es → key (lesser_end_at es h) < k → get_or left h true ≡ is_left es h
  pub rest : (h : ℕ) → h < length es → k ≤ key (lesser_end_at es h) → get_or left h true ≡ true
