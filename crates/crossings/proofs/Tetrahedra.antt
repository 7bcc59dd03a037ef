-- The hits of two tetrahedra, computed by the definitions.
use Rattle.std.proofs.Common.{◌≡◌, ℤ, pos, negsuc, false, Bool, List, [], ◌∷◌, refl}
use Rattle.mesh_terms.specs.Meshes.{Triple}
use Rattle.rounding.specs.Nearest.{nearest, settle_nearest}
use Rattle.shadow_kernels.specs.Rules.{grid}
use Rattle.shadow_kernels.specs.Counts.{met, by_ends, joined, lifted}
use Rattle.shadow_kernels.specs.Shadows.{meet01, meet10, meet11, meet02, meet20}
use Rattle.shadow_kernels.specs.Spots.{spot01, spot10, spot_between}
use Rattle.edge_face.specs.Crossings.{p_point, q_point, crossed, crossing, edge_face_crossing, face_edge_crossing}
use Rattle.side_terms.specs.Sides.{Side, corners_of}
use Rattle.crossings.specs.Hits.{CrossingTest, hits_of}

abbrev faces : List Triple
faces = (0, 2, 1) ∷ (0, 1, 3) ∷ (1, 2, 3) ∷ (2, 0, 3) ∷ []

abbrev still : List Bool
still = false ∷ false ∷ false ∷ []

-- a tetrahedron over four points, without marks
abbrev tetrahedron : List ℤ → List ℤ → List ℤ → List ℤ → Side
tetrahedron a b c d = record { corners = corners_of (a ∷ b ∷ c ∷ d ∷ []) (still ∷ still ∷ still ∷ still ∷ []); triples = faces; twins = [] }

abbrev point : ℤ → ℤ → ℤ → List ℤ
point x y z = x ∷ y ∷ z ∷ []

-- one on the ground, and one that stands through its bottom and its slanted face
abbrev low : Side
low = tetrahedron (point (pos 0) (pos 0) (pos 0)) (point (pos 4) (pos 0) (pos 0)) (point (pos 0) (pos 4) (pos 0)) (point (pos 0) (pos 0) (pos 4))

abbrev high : Side
high = tetrahedron (point (pos 1) (pos 1) (negsuc 1)) (point (pos 5) (pos 1) (negsuc 1)) (point (pos 1) (pos 5) (negsuc 1)) (point (pos 1) (pos 1) (pos 2))

abbrev edge_test : CrossingTest
edge_test edge face = edge_face_crossing grid nearest settle_nearest edge face

abbrev face_test : CrossingTest
face_test edge face = face_edge_crossing grid nearest settle_nearest face edge

-- the edge of the bottom under the slanted face goes in and out of the other
low_hits : hits_of edge_test low high
    ≡ record { edge = 1; face = 1; number = pos 1; at = point (pos 3) (pos 1) (pos 0) } ∷ record {
      edge = 1;
      face = 3;
      number = negsuc 0;
      at = point (pos 1) (pos 3) (pos 0);
    } ∷ []
unfolding crossing crossed p_point meet02 meet11 meet10 meet01 lifted joined by_ends met spot01 spot10 spot_between
low_hits = refl

-- the upright edge of the other comes in by the bottom and goes out by the slanted face
high_hits : hits_of face_test high low
    ≡ record { edge = 5; face = 0; number = pos 1; at = point (pos 1) (pos 1) (pos 0) } ∷ record {
      edge = 5;
      face = 2;
      number = negsuc 0;
      at = point (pos 1) (pos 1) (pos 2);
    } ∷ []
unfolding crossing crossed q_point meet20 meet11 meet10 meet01 lifted joined by_ends met spot01 spot10 spot_between
high_hits = refl
