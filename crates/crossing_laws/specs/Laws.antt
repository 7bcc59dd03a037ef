-- The main laws as statements: numbers of crossings under exact tests are the geometric ones, and add up to winding numbers.
use Rattle.std.specs.Prelude.{◌≡◌, List, [], ◌∷◌}
use Rattle.mb_base.specs.declared.point.Corner.{Corner}
use Rattle.side_terms.specs.Corners.{AllFine, IsFineCorner}
use Rattle.side_terms.specs.Sides.{Side, IsSide}
use Rattle.shadow_kernels.specs.Spots.{Between}
use Rattle.edge_face.specs.Crossings.{Settle, edge_face_crossing, face_edge_crossing, number_of}
use Rattle.exact_kernels.specs.Exact.{exact, position}
use Rattle.plane_laws.specs.Decisions.{Vector}
use Rattle.solid_laws.specs.Laws.{winding_back_in, winding_in}
use Rattle.solid_laws.specs.Windings.{places_of}
use Rattle.crossing_laws.specs.Through.{AreSteps, IsLeftOf, IsPlain, IsPlainTo, goes_through, moved_through, moved_throughs, through_moved, throughs, throughs_moved}
use Rattle.crossing_laws.specs.Through.{way_end, way_total}

-- the number of an edge of P and a face of Q
abbrev pub NumbersOfP : Type 0
NumbersOfP =
    (w : Between) (settle : Settle) (a b u v t : Corner) → AllFine (a ∷ b ∷ []) → AllFine (u ∷ v ∷ t ∷ []) →
    number_of (edge_face_crossing exact w settle (a ∷ b ∷ []) (u ∷ v ∷ t ∷ [])) ≡ moved_through (position a) (position b) (position u) (position v) (position t)

-- that of an edge of Q and a face of P
abbrev pub NumbersOfQ : Type 0
NumbersOfQ =
    (w : Between) (settle : Settle) (u v t a b : Corner) → AllFine (u ∷ v ∷ t ∷ []) → AllFine (a ∷ b ∷ []) →
    number_of (face_edge_crossing exact w settle (u ∷ v ∷ t ∷ []) (a ∷ b ∷ [])) ≡ through_moved (position a) (position b) (position u) (position v) (position t)

-- where no volume is 0 nothing needs to be moved
abbrev pub NeedNoHair : Type 0
NeedNoHair = (a b u v t : Vector) → IsPlain a b u v t → (moved_through a b u v t ≡ goes_through a b u v t) × (through_moved a b u v t ≡ goes_through a b u v t)

-- the winding number of a corner of P in a side of Q is how often any way from it to far outside goes through faces of Q to their front, less how often it comes back
abbrev pub WaysOut : Type 0
WaysOut =
    (w : Between) (p : Corner) (way : List Corner) (q : Side) → IsFineCorner p → AllFine way → IsSide q → IsLeftOf (position (way_end p way)) (places_of q) q.triples →
    winding_in w p q ≡ way_total (λ c d. moved_throughs (places_of q) q.triples (position c) (position d)) p way

-- the same of a corner of Q in a side of P
abbrev pub WaysBackOut : Type 0
WaysBackOut =
    (w : Between) (q : Corner) (way : List Corner) (p : Side) → IsFineCorner q → AllFine way → IsSide p → IsLeftOf (position (way_end q way)) (places_of p) p.triples →
    winding_back_in w q p ≡ way_total (λ c d. throughs_moved (places_of p) p.triples (position c) (position d)) q way

-- where no segment of the way makes a volume of 0 with a face, nothing needs to be moved
abbrev pub PlainWaysOut : Type 0
PlainWaysOut =
    (w : Between) (p : Corner) (way : List Corner) (q : Side) → IsFineCorner p → AllFine way → IsSide q → IsLeftOf (position (way_end p way)) (places_of q) q.triples →
    AreSteps (λ c d. IsPlainTo (places_of q) q.triples (position c) (position d)) p way →
    winding_in w p q ≡ way_total (λ c d. throughs (places_of q) q.triples (position c) (position d)) p way

-- nor there
abbrev pub PlainWaysBackOut : Type 0
PlainWaysBackOut =
    (w : Between) (q : Corner) (way : List Corner) (p : Side) → IsFineCorner q → AllFine way → IsSide p → IsLeftOf (position (way_end q way)) (places_of p) p.triples →
    AreSteps (λ c d. IsPlainTo (places_of p) p.triples (position c) (position d)) q way →
    winding_back_in w q p ≡ way_total (λ c d. throughs (places_of p) p.triples (position c) (position d)) q way
