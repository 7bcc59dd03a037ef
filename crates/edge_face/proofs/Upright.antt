-- Crossings of a flat face and upright edges, computed by the definitions.
use Rattle.std.proofs.Common.{◌≡◌, ℤ, pos, negsuc, ◌*ℤ◌, Bool, true, false, Option, None, Some, List, [], ◌∷◌, refl}
use Rattle.mb_base.specs.declared.TheConstants.{UNIT}
use Rattle.mb_base.specs.declared.point.Corner.{Corner}
use Rattle.rounding.specs.Nearest.{nearest, settle_nearest}
use Rattle.shadow_kernels.specs.Rules.{grid}
use Rattle.shadow_kernels.specs.Counts.{met, by_ends, joined, lifted}
use Rattle.shadow_kernels.specs.Shadows.{meet01, meet10, meet11, meet02, meet20}
use Rattle.shadow_kernels.specs.Spots.{spot01, spot10, spot_between}
use Rattle.edge_face.specs.declared.Cross.{Cross}
use Rattle.edge_face.specs.Crossings.{p_point, q_point, crossed, crossing, edge_face_crossing, face_edge_crossing}

-- a corner in grid steps, with its mark in z
abbrev corner : ℤ → ℤ → ℤ → Bool → Corner
corner x y z up = record { at = (UNIT *ℤ x) ∷ (UNIT *ℤ y) ∷ (UNIT *ℤ z) ∷ []; up = false ∷ false ∷ up ∷ [] }

-- a triangle at height 0, with its mark in z
abbrev face : Bool → List Corner
face up = corner (pos 0) (pos 0) (pos 0) up ∷ corner (pos 4) (pos 0) (pos 0) up ∷ corner (pos 0) (pos 4) (pos 0) up ∷ []

-- the edge over (x, x) from height a to height b
abbrev upright : ℤ → ℤ → ℤ → Bool → List Corner
upright x a b up = corner x x a up ∷ corner x x b up ∷ []

-- the crossing of an edge of P and the face of Q, and of the face of P and an edge of Q
abbrev edge_crossing : List Corner → Option Cross
edge_crossing edge = edge_face_crossing grid nearest settle_nearest edge (face false)

abbrev face_crossing : Bool → List Corner → Option Cross
face_crossing up edge = face_edge_crossing grid nearest settle_nearest (face up) edge

-- a crossing at (1, 1, 0)
abbrev once : ℤ → Option Cross
once number = Some (record { number = number; at = pos 1 ∷ pos 1 ∷ pos 0 ∷ [] })

-- an edge of P that goes up through the face, down through it, past it, and up from it, where its start counts as not above or, moved up, as above
record EdgeCrossings : Type 0 where
  up : edge_crossing (upright (pos 1) (negsuc 0) (pos 1) false) ≡ once (pos 1)
  down : edge_crossing (upright (pos 1) (pos 1) (negsuc 0) false) ≡ once (negsuc 0)
  past : edge_crossing (upright (pos 5) (negsuc 0) (pos 1) false) ≡ None
  from : edge_crossing (upright (pos 1) (pos 0) (pos 2) false) ≡ once (pos 1)
  moved : edge_crossing (upright (pos 1) (pos 0) (pos 2) true) ≡ None

-- an edge of Q likewise; from the face it goes on only where the face is moved up
record FaceCrossings : Type 0 where
  up : face_crossing false (upright (pos 1) (negsuc 0) (pos 1) false) ≡ once (pos 1)
  down : face_crossing false (upright (pos 1) (pos 1) (negsuc 0) false) ≡ once (negsuc 0)
  past : face_crossing false (upright (pos 5) (negsuc 0) (pos 1) false) ≡ None
  from : face_crossing false (upright (pos 1) (pos 0) (pos 2) false) ≡ None
  moved : face_crossing true (upright (pos 1) (pos 0) (pos 2) false) ≡ once (pos 1)

edges_cross : EdgeCrossings
unfolding crossing crossed p_point meet02 meet11 meet10 meet01 lifted joined by_ends met spot01 spot10 spot_between
edges_cross = record { up = refl; down = refl; past = refl; from = refl; moved = refl }

faces_cross : FaceCrossings
unfolding crossing crossed q_point meet20 meet11 meet10 meet01 lifted joined by_ends met spot01 spot10 spot_between
faces_cross = record { up = refl; down = refl; past = refl; from = refl; moved = refl }
