-- Winding numbers in a tetrahedron, computed by the definitions.
use Rattle.std.proofs.Common.{◌≡◌, ℤ, pos, negsuc, Bool, true, false, List, [], ◌∷◌, ◌++◌, refl}
use Rattle.mb_base.specs.declared.point.Corner.{Corner}
use Rattle.mesh_terms.specs.Meshes.{Triple}
use Rattle.side_terms.specs.Corners.{corner_at}
use Rattle.rounding.specs.Nearest.{nearest}
use Rattle.shadow_kernels.specs.Counts.{met, by_ends, joined, lifted}
use Rattle.shadow_kernels.specs.Rules.{grid}
use Rattle.shadow_kernels.specs.Shadows.{meet01, meet10, meet02, meet20}
use Rattle.shadow_kernels.specs.Spots.{spot01, spot10, spot_between}
use Rattle.shadow_kernels.specs.ShadowLaws.{ShadowTest}
use Rattle.side_terms.specs.Sides.{Side, corner_of, corners_of}
use Rattle.winding.specs.Windings.{winding, winding_back, winding_at}
use Rattle.winding.proofs.Plain.{no_marks, nearest_test}

abbrev points : List (List ℤ)
points = (pos 0 ∷ pos 0 ∷ pos 0 ∷ []) ∷ (pos 4 ∷ pos 0 ∷ pos 0 ∷ []) ∷ (pos 0 ∷ pos 4 ∷ pos 0 ∷ []) ∷ (pos 0 ∷ pos 0 ∷ pos 4 ∷ []) ∷ []

abbrev outward : List Triple
outward = (0, 2, 1) ∷ (0, 1, 3) ∷ (1, 2, 3) ∷ (2, 0, 3) ∷ []

abbrev inward : List Triple
inward = (0, 1, 2) ∷ (0, 3, 1) ∷ (1, 3, 2) ∷ (2, 3, 0) ∷ []

-- the tetrahedron without marks
abbrev tetrahedron : Side
tetrahedron = record { corners = corners_of points (no_marks ∷ no_marks ∷ no_marks ∷ no_marks ∷ []); triples = outward; twins = [] }

-- the corner over (1, 1) at height z, with its mark in z
abbrev over : ℤ → Bool → Corner
over z up = corner_of (pos 1 ∷ pos 1 ∷ z ∷ []) (false ∷ false ∷ up ∷ [])

-- the shadow test of a face and a vertex on the grid
abbrev test_back : ShadowTest
test_back p q = meet20 grid nearest (corner_at p 0) (corner_at p 1) (corner_at p 2) (corner_at q 0)

abbrev number : Corner → ℤ
number p = winding nearest_test p tetrahedron

abbrev number_back : Corner → ℤ
number_back q = winding_back test_back tetrahedron q

-- a corner of P is inside, outside, and on the lower face: outside, and inside where it counts as moved up
record Numbers : Type 0 where
  inside : number (over (pos 1) false) ≡ pos 1
  outside : number (over (pos 4) false) ≡ pos 0
  on : number (over (pos 0) false) ≡ pos 0
  moved : number (over (pos 0) true) ≡ pos 1

-- a corner of Q on the lower face is inside, since it is above where P is not beyond it
record NumbersBack : Type 0 where
  inside : number_back (over (pos 1) false) ≡ pos 1
  outside : number_back (over (pos 4) false) ≡ pos 0
  on : number_back (over (pos 0) false) ≡ pos 1

-- a point in the mesh as it was read, and in the one turned inside out
record NumbersAt : Type 0 where
  inside : winding_at (pos 1 ∷ pos 1 ∷ pos 1 ∷ []) (record { points = points; triples = outward; labels = [] }) ≡ pos 1
  outside : winding_at (pos 1 ∷ pos 1 ∷ negsuc 0 ∷ []) (record { points = points; triples = outward; labels = [] }) ≡ pos 0
  turned : winding_at (pos 1 ∷ pos 1 ∷ pos 1 ∷ []) (record { points = points; triples = inward; labels = [] }) ≡ negsuc 0
  twice : winding_at (pos 1 ∷ pos 1 ∷ pos 1 ∷ []) (record { points = points; triples = outward ++ outward; labels = [] }) ≡ pos 2

numbers : Numbers
unfolding meet02 meet01 lifted joined by_ends met spot01 spot_between
numbers = record { inside = refl; outside = refl; on = refl; moved = refl }

numbers_back : NumbersBack
unfolding meet20 meet10 lifted joined by_ends met spot10 spot_between
numbers_back = record { inside = refl; outside = refl; on = refl }

numbers_at : NumbersAt
unfolding meet02 meet01 lifted joined by_ends met spot01 spot_between
numbers_at = record { inside = refl; outside = refl; turned = refl; twice = refl }
