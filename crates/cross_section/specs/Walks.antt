-- What a walk from vertex to vertex rests on.
use Rattle.std.specs.Prelude.{◌≡◌, ℕ, ◌<◌, ℤ, ◌+ℤ◌, List, length}
use Rattle.std.specs.List.{Contains}
use Rattle.chain_terms.specs.Ranks.{start}
use Rattle.chain_terms.specs.Sums.{total}
use Rattle.mb_base.specs.declared.point.Corner.{Corner}
use Rattle.side_terms.specs.Corners.{corner_at}
use Rattle.side_terms.specs.Sides.{edge_of}
use Rattle.outline_pair_terms.specs.Numbers.{FlatSide, ends_of}

-- the winding number of a vertex: the sum of the edges' parts
abbrev pub winding_of : (Corner → List Corner → ℤ) → FlatSide → Corner → ℤ
winding_of part edges c = total (λ e. part c (ends_of edges e)) edges.edges

-- each corner starts an edge
pub record IsWhole (side : FlatSide) : Type 0 where
  pub starts : (v : ℕ) → v < length side.corners → (w : ℕ) × Contains side.edges (v, w)

-- from any vertex to any other the winding number changes by the sum of the edges' changes
pub record ChangesAlong (part : Corner → List Corner → ℤ) (change : List Corner → List Corner → ℤ) (vertices edges : FlatSide) : Type 0 where
  pub along : (a b : ℕ) → winding_of part edges (corner_at vertices.corners b)
      ≡ winding_of part edges (corner_at vertices.corners a) +ℤ total (λ e. change (edge_of vertices.corners a b) (ends_of edges e)) edges.edges

-- a vertex at which one of the first edges starts
abbrev pub IsStartBefore : List (ℕ × ℕ) → ℕ → ℕ → Type 0
IsStartBefore edges end v = (k : ℕ) × (k < end) × (v ≡ start edges k)
