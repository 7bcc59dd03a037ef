-- The main theorem as statements: winding numbers under exact tests are the geometric ones.
use Rattle.std.specs.Prelude.{◌≡◌, ℤ, neg_ℤ, [], ◌∷◌}
use Rattle.chain_terms.specs.Sums.{total}
use Rattle.mb_base.specs.declared.point.Corner.{Corner}
use Rattle.side_terms.specs.Corners.{IsFineCorner}
use Rattle.side_terms.specs.Sides.{Side, IsSide, face_of}
use Rattle.shadow_kernels.specs.Spots.{Between}
use Rattle.shadow_kernels.specs.Counts.{shadow_of}
use Rattle.shadow_kernels.specs.Shadows.{vertex_face, face_vertex}
use Rattle.exact_kernels.specs.Exact.{exact, position}
use Rattle.plane_laws.specs.Decisions.{Vector}
use Rattle.solid_terms.specs.Solids.{IsClearOfAll, IsOffFaces, solid_winding}
use Rattle.solid_laws.specs.Windings.{places_of}
use Rattle.solid_laws.specs.Apex.{apex_of}

-- the winding number of a corner of P in a side of Q
abbrev pub winding_in : Between → Corner → Side → ℤ
winding_in w p q = neg_ℤ (total (λ t. shadow_of (vertex_face exact w (p ∷ []) (face_of q.corners t))) q.triples)

-- that of a corner of Q in a side of P
abbrev pub winding_back_in : Between → Corner → Side → ℤ
winding_back_in w q p = neg_ℤ (total (λ t. shadow_of (face_vertex exact w (face_of p.corners t) (q ∷ []))) p.triples)

-- from any apex: where the corner is on the surface of no tetrahedron
abbrev pub CountFromEachApex : Type 0
CountFromEachApex =
    (w : Between) (p : Corner) (o : Vector) (q : Side) → IsSide q → IsClearOfAll (position p) o (places_of q) q.triples →
    winding_in w p q ≡ solid_winding (position p) o (places_of q) q.triples

-- the same of a corner of Q in a side of P
abbrev pub CountBackFromEachApex : Type 0
CountBackFromEachApex =
    (w : Between) (q : Corner) (o : Vector) (p : Side) → IsSide p → IsClearOfAll (position q) o (places_of p) p.triples →
    winding_back_in w q p ≡ solid_winding (position q) o (places_of p) p.triples

-- and there is such an apex for every corner in no closed face
abbrev pub HasApex : Type 0
HasApex =
    (p : Corner) (q : Side) → IsFineCorner p → IsSide q → IsOffFaces (position p) (places_of q) q.triples → IsClearOfAll (position p) (apex_of p) (places_of q) q.triples
