-- Triples from their least vertex on, and orientations as directed edges: the other orientation is the reverse edge.
use Rattle.std.specs.Prelude.{ℕ, ◌+◌, ◌*◌, ◌<◌, List, ◌&&◌, nat_lt, if◌then◌else◌, map}
use Rattle.mesh_terms.specs.Meshes.{Triple, HasThree}

-- from the least vertex on
abbrev pub least_first : Triple → Triple
least_first t =
    if nat_lt t.1 t.0 && nat_lt t.1 t.2 then (t.1, t.2, t.0) else if nat_lt t.2 t.0 && nat_lt t.2 t.1 then (t.2, t.0, t.1) else t

-- the last two exchanged
abbrev pub other_side : Triple → Triple
other_side t = (t.0, t.2, t.1)

-- two vertices as one number, only so that an orientation is an edge between two numbers
abbrev pub pair_number : ℕ → ℕ → ℕ
pair_number a b = a * 4294967296 + b

-- the first vertex with the second, and with the third
abbrev pub edge_of : Triple → ℕ × ℕ
edge_of t = (pair_number t.0 t.1, pair_number t.0 t.2)

-- triples of one orientation have the same edge, those of the other the reverse one
abbrev pub orientation_edge : Triple → ℕ × ℕ
orientation_edge t = edge_of (least_first t)

abbrev pub orientation_edges : List Triple → List (ℕ × ℕ)
orientation_edges ts = map orientation_edge ts

-- the vertices are below 2^32
pub record IsNarrow (t : Triple) : Type 0 where
  pub a : t.0 < 4294967296
  pub b : t.1 < 4294967296
  pub c : t.2 < 4294967296

-- three different vertices below 2^32
pub record IsTriangle (t : Triple) : Type 0 where
  pub three : HasThree t
  pub narrow : IsNarrow t
