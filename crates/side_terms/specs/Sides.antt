-- The lists of a side: the corners of a mesh in fine steps, its triangles, and the twins of their half-edges.
use Rattle.std.specs.Prelude.{ℕ, ℤ, ◌*ℤ◌, Bool, List, [], ◌∷◌, get_or, length, map}
use Rattle.std.specs.List.{zip}
use Rattle.chain_terms.specs.Chains.{all_edges}
use Rattle.chain_terms.specs.Ranks.{start, finish}
use Rattle.mb_base.specs.declared.TheConstants.{UNIT}
use Rattle.mb_base.specs.declared.point.Box3.{Box3}
use Rattle.mb_base.specs.declared.point.Corner.{Corner}
use Rattle.mb_base.specs.Boxes.{box_of}
use Rattle.mesh_terms.specs.Twins.{IsTwinned, twins_of}
use Rattle.mesh_terms.specs.Points.{coordinate_of}
use Rattle.mesh_terms.specs.Meshes.{Mesh, Triple, IsAccepted}
use Rattle.side_terms.specs.Corners.{corner_at, AllFine, AllWhole}

-- corners, triangles by the numbers of their corners, and the twin of each half-edge
pub record Side : Type 0 where
  pub corners : List Corner
  pub triples : List Triple
  pub twins : List ℕ

-- the corner of a point with its marks: each coordinate in fine steps
abbrev pub corner_of : List ℤ → List Bool → Corner
corner_of point up =
    record { at = (UNIT *ℤ coordinate_of point 0) ∷ (UNIT *ℤ coordinate_of point 1) ∷ (UNIT *ℤ coordinate_of point 2) ∷ []; up = up }

-- the corners of points with their marks, in order
abbrev pub corners_of : List (List ℤ) → List (List Bool) → List Corner
corners_of points ups = map (λ m. corner_of m.0 m.1) (zip points ups)

-- the corners of a triangle
abbrev pub face_of : List Corner → Triple → List Corner
face_of corners t = corner_at corners t.0 ∷ corner_at corners t.1 ∷ corner_at corners t.2 ∷ []

-- the corners of the triangle with a number
abbrev pub face_at : Side → ℕ → List Corner
face_at side f = face_of side.corners (get_or side.triples f (0, 0, 0))

-- the box of each triangle, in order
abbrev pub face_boxes : Side → List Box3
face_boxes side = map (λ t. box_of (face_of side.corners t)) side.triples

-- the corners of the edge from a to b
abbrev pub edge_of : List Corner → ℕ → ℕ → List Corner
edge_of corners a b = corner_at corners a ∷ corner_at corners b ∷ []

-- the corners of the half-edge with a number, from its start to its end
abbrev pub edge_at : Side → ℕ → List Corner
edge_at side h = let es = all_edges side.triples in edge_of side.corners (start es h) (finish es h)

-- the side of a mesh with the marks of its points
abbrev pub side_of : Mesh → List (List Bool) → Side
side_of mesh ups = record { corners = corners_of mesh.points ups; triples = mesh.triples; twins = twins_of mesh.triples }

-- what every side keeps: corners at grid points, triangles that are a closed mesh on them, and their twins
pub record IsSide (side : Side) : Type 0 where
  pub fine : AllFine side.corners
  pub whole : AllWhole side.corners
  pub accepted : IsAccepted (length side.corners) side.triples
  pub twinned : IsTwinned side.triples side.twins
