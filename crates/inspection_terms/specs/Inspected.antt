-- What an inspection of a mesh says.
use Rattle.std.specs.Prelude.{◌≡◌, ℕ, zero, suc, ℤ, List, [], ◌∷◌, ◌++◌, Bool, true, not, ◌&&◌, ◌||◌, nat_lt, map, length, count_by, get_or}
use Rattle.std.specs.List.{list_any}
use Rattle.std.specs.Ordering.{int_eq}
use Rattle.chain_terms.specs.Sums.{upto}
use Rattle.mb_base.specs.Boxes.{least, greatest}
use Rattle.mesh_terms.specs.Meshes.{Mesh}
use Rattle.mesh_terms.specs.Points.{coordinate_of}
use Rattle.plane_laws.specs.Decisions.{Vector}
use Rattle.inspection_terms.specs.Cuts.{AreCutting}
use Rattle.inspection_terms.specs.Triangles.{Corners, corners_at, is_flat, place_at}

-- the lesser corner of the least box that holds all points; of no points 0 0 0
abbrev pub low_corner : List (List ℤ) → List ℤ
low_corner points = least (map (λ p. coordinate_of p 0) points) ∷ least (map (λ p. coordinate_of p 1) points) ∷ least (map (λ p. coordinate_of p 2) points) ∷ []

-- the greater one
abbrev pub high_corner : List (List ℤ) → List ℤ
high_corner points = greatest (map (λ p. coordinate_of p 0) points) ∷ greatest (map (λ p. coordinate_of p 1) points) ∷ greatest (map (λ p. coordinate_of p 2) points) ∷ []

-- triangles that are flat
abbrev pub flat_count : Mesh → ℕ
flat_count m = count_by (λ t. is_flat (corners_at m t)) (upto (length m.triples))

-- two places are one
abbrev pub same_place : Vector → Vector → Bool
same_place p q = int_eq p.x q.x && int_eq p.y q.y && int_eq p.z q.z

-- an earlier point lies at the place of point v
abbrev pub has_earlier : List (List ℤ) → ℕ → Bool
has_earlier points v = list_any (λ w. same_place (place_at points w) (place_at points v)) (upto v)

-- points at which an earlier point lies
abbrev pub doubled_count : List (List ℤ) → ℕ
doubled_count points = count_by (has_earlier points) (upto (length points))

-- the pairs of different numbers below n, the lesser first
abbrev pub pairs_below : ℕ → List (ℕ × ℕ)
pairs_below zero = []
pairs_below (suc n) = pairs_below n ++ map (λ s. (s, n)) (upto n)

-- a corner lies at the place
abbrev pub has_corner : Corners → Vector → Bool
has_corner t p = same_place p t.0 || same_place p t.1 || same_place p t.2

-- triangles that are not flat of which the places of points v and w are an edge
abbrev pub edge_count : Mesh → ℕ → ℕ → ℕ
edge_count m v w =
    count_by (λ t. not (is_flat (corners_at m t)) && has_corner (corners_at m t) (place_at m.points v) && has_corner (corners_at m t) (place_at m.points w))
    (upto (length m.triples))

-- two points, each the first at its place, whose places are an edge of more than two triangles that are not flat
abbrev pub is_touching : Mesh → ℕ × ℕ → Bool
is_touching m e = not (has_earlier m.points e.0) && not (has_earlier m.points e.1) && nat_lt 2 (edge_count m e.0 e.1)

-- pairs of places that are such an edge
abbrev pub touching_count : Mesh → ℕ
touching_count m = count_by (is_touching m) (pairs_below (length m.points))

-- so many of a list have a property: a test that tells it counts them
pub record IsCount {X : Type 0} (P : X → Type 0) (xs : List X) (n : ℕ) : Type 0 where
  pub test : X → Bool
  pub holds : (x : X) → test x ≡ true → P x
  pub tells : (x : X) → P x → test x ≡ true
  pub counted : n ≡ count_by test xs

-- triangles s and t cut one another
abbrev pub IsCut : Mesh → ℕ × ℕ → Type 0
IsCut m e = AreCutting (corners_at m e.0) (corners_at m e.1)

-- so many pairs of triangles do
abbrev pub IsCutCount : Mesh → ℕ → Type 0
IsCutCount m n = IsCount (IsCut m) (pairs_below (length m.triples)) n
