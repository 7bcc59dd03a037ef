-- The chain of a plane: how often edges run along the rims of its triangles, label by label; and edges of it that cross.
use Rattle.std.specs.Prelude.{ℕ, min, max, ℤ, pos, ◌+ℤ◌, ◌-ℤ◌, ◌*ℤ◌, List, [], ◌∷◌, Bool, not, ◌&&◌, ◌||◌, ◌==◌, int_div, int_lt, filter, map}
use Rattle.std.specs.List.{flat_map, list_any}
use Rattle.std.specs.Ordering.{int_eq}
use Rattle.chain_terms.specs.Chains.{boundary}
use Rattle.face_plane.specs.Planes.{Plane, orient, point_at}
use Rattle.mesh_terms.specs.Points.{coordinate_of}
use Rattle.sheet_terms.specs.Faces.{Face, labelled, rim_edges}
use Rattle.sheet_terms.specs.Places.{firsts}

-- two pairs of places are one
abbrev pub same_edge : (ℕ × ℕ) → (ℕ × ℕ) → Bool
same_edge d e = (d.0 == e.0) && (d.1 == e.1)

-- an edge from its lesser place
abbrev pub upward : (ℕ × ℕ) → ℕ × ℕ
upward e = (min e.0 e.1, max e.0 e.1)

-- an edge, and for each label how often it runs along the rims of the triangles less how often it runs back
pub record ChainEdge : Type 0 where
  pub edge : ℕ × ℕ
  pub counts : List ℤ

abbrev pub chain_edge : List (List ℕ) → List Face → (ℕ × ℕ) → ChainEdge
chain_edge labels fs e = record { edge = e; counts = map (λ l. boundary (rim_edges (labelled l fs)) e.0 e.1) labels }

-- the chain of triangles: the edges of their rims that have a number other than 0 for some label
abbrev pub chain : List (List ℕ) → List Face → List ChainEdge
chain labels fs = filter (λ c. list_any (λ n. not (int_eq n (pos 0))) c.counts) (map (chain_edge labels fs) (firsts same_edge (map upward (rim_edges fs))))

-- one number is above 0 and the other below
abbrev pub are_opposite : ℤ → ℤ → Bool
are_opposite x y = (int_lt x (pos 0) && int_lt (pos 0) y) || (int_lt (pos 0) x && int_lt y (pos 0))

-- two edges cross: the ends of each lie on both sides of the other
abbrev pub cross : Plane → (ℕ × ℕ) → (ℕ × ℕ) → Bool
cross at d e =
    are_opposite (orient at d.0 d.1 e.0) (orient at d.0 d.1 e.1) && are_opposite (orient at e.0 e.1 d.0) (orient at e.0 e.1 d.1)

-- the edges of a chain that cross others
abbrev pub crossed : Plane → List ChainEdge → List (ℕ × ℕ)
crossed at cs = map (λ c. c.edge) (filter (λ c. list_any (λ d. cross at c.edge d.edge) cs) cs)

-- n parts of d of the way from p to q, coordinate by coordinate, rounded to 0
abbrev pub part_way : ℤ → ℤ → List ℤ → List ℤ → ℕ → ℤ
part_way n d p q i = int_div ((coordinate_of q i -ℤ coordinate_of p i) *ℤ n) d

-- nothing is rounded there
abbrev pub is_whole : ℤ → ℤ → List ℤ → List ℤ → ℕ → Bool
is_whole n d p q i = int_eq (part_way n d p q i *ℤ d) ((coordinate_of q i -ℤ coordinate_of p i) *ℤ n)

-- the point that lies so far from p to q, where it is one of the grid
abbrev pub grid_point : ℤ → ℤ → List ℤ → List ℤ → List (List ℤ)
grid_point n d p q =
    filter (λ x. is_whole n d p q 0 && is_whole n d p q 1 && is_whole n d p q 2)
    (((coordinate_of p 0 +ℤ part_way n d p q 0) ∷ (coordinate_of p 1 +ℤ part_way n d p q 1) ∷ (coordinate_of p 2 +ℤ part_way n d p q 2) ∷ []) ∷ [])

-- the point of the grid in which an edge crosses another; none where they cross beside the grid, or not at all
abbrev pub crossing_point : List (List ℤ) → Plane → (ℕ × ℕ) → (ℕ × ℕ) → List (List ℤ)
crossing_point points at d e =
    let n = orient at e.0 e.1 d.0 in
    flat_map (λ (f : ℕ × ℕ). grid_point n (n -ℤ orient at e.0 e.1 d.1) (point_at points d.0) (point_at points d.1)) (filter (cross at d) (e ∷ []))
