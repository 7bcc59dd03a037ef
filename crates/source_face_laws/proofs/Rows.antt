-- A tetrahedron less another that one of its edges runs through, and two that share a corner region, computed.
use Rattle.std.specs.Prelude.{◌≡◌, ℕ, ℤ, pos, negsuc, List, [], ◌∷◌, map, replicate, length}
use Rattle.std.proofs.Common.{refl}
use Rattle.chain_terms.specs.Cycles.{cycles}
use Rattle.chain_terms.specs.Sums.{upto}
use Rattle.mb_base.specs.declared.op.Op.TheVariants.{Intersect, Subtract}
use Rattle.mb_base.specs.declared.op.Op.{Op}
use Rattle.mb_base.specs.declared.results.Hit.{Hit}
use Rattle.mesh_terms.specs.Meshes.{Triple}
use Rattle.mesh_terms.specs.Twins.{twins_of}
use Rattle.side_terms.specs.Sides.{Side, corners_of}
use Rattle.side_terms.specs.Prescribed.{Numbers, prescribed}
use Rattle.source_face_terms.specs.Segments.{place_of, segments_of, source_count}

abbrev at : ℤ → ℤ → ℤ → List ℤ
at x y z = x ∷ y ∷ z ∷ []

abbrev faces : List Triple
faces = (0, 2, 1) ∷ (0, 1, 3) ∷ (1, 2, 3) ∷ (2, 0, 3) ∷ []

-- a tetrahedron by its four corners
abbrev tetrahedron : List (List ℤ) → Side
tetrahedron points = record { corners = corners_of points (replicate (length points) []); triples = faces; twins = twins_of faces }

-- the segments of each source face
abbrev all_faces : Op → Side → Side → Numbers → List (List (ℕ × ℕ))
all_faces op p q n = let cs = prescribed op p q n in map (segments_of p q cs (place_of cs)) (upto (source_count p q))

-- its loops
abbrev all_loops : Op → Side → Side → Numbers → List (List (List ℕ))
all_loops op p q n = map cycles (all_faces op p q n)

abbrev none : List ℤ
none = pos 0 ∷ pos 0 ∷ pos 0 ∷ pos 0 ∷ []

abbrev hit : ℕ → ℕ → ℤ → List ℤ → Hit
hit edge face number point = record { edge = edge; face = face; number = number; at = point }

-- the edge from (8, 0, 0) to (0, 0, 0) goes through the second one at (4, 0, 0) and (3, 0, 0)
abbrev big : Side
big = tetrahedron (at (pos 0) (pos 0) (pos 0) ∷ at (pos 8) (pos 0) (pos 0) ∷ at (pos 0) (pos 8) (pos 0) ∷ at (pos 0) (pos 0) (pos 8) ∷ [])

abbrev small : Side
small = tetrahedron (at (pos 3) (negsuc 0) (negsuc 0) ∷ at (pos 6) (negsuc 0) (negsuc 0) ∷ at (pos 3) (pos 2) (negsuc 0) ∷ at (pos 3) (negsuc 0) (pos 2) ∷ [])

abbrev notch : Numbers
notch = record {
  w03 = none;
  w30 = none;
  x12 = hit 2 2 (negsuc 0) (at (pos 4) (pos 0) (pos 0)) ∷ hit 2 3 (pos 1) (at (pos 3) (pos 0) (pos 0)) ∷ [];
  x21 = hit 7 0 (negsuc 0) (at (pos 3) (pos 1) (pos 0)) ∷ hit 7 1 (pos 1) (at (pos 3) (pos 0) (pos 1)) ∷ [];
}

-- on that edge two starts go to two ends
notched : all_faces Subtract big small notch ≡
    ((0, 2) ∷ (2, 1) ∷ (1, 4) ∷ (5, 0) ∷ (4, 6) ∷ (6, 5) ∷ [])
    ∷ ((4, 1) ∷ (0, 5) ∷ (1, 3) ∷ (3, 0) ∷ (7, 4) ∷ (5, 7) ∷ [])
    ∷ ((1, 2) ∷ (2, 3) ∷ (3, 1) ∷ [])
    ∷ ((2, 0) ∷ (0, 3) ∷ (3, 2) ∷ [])
    ∷ [] ∷ [] ∷ ((7, 6) ∷ (6, 4) ∷ (4, 7) ∷ []) ∷ ((6, 7) ∷ (5, 6) ∷ (7, 5) ∷ []) ∷ []
notched = refl

notched_loops : all_loops Subtract big small notch ≡
    ((0 ∷ 2 ∷ 1 ∷ 4 ∷ 6 ∷ 5 ∷ []) ∷ [])
    ∷ ((4 ∷ 1 ∷ 3 ∷ 0 ∷ 5 ∷ 7 ∷ []) ∷ [])
    ∷ ((1 ∷ 2 ∷ 3 ∷ []) ∷ [])
    ∷ ((2 ∷ 0 ∷ 3 ∷ []) ∷ [])
    ∷ [] ∷ [] ∷ ((7 ∷ 6 ∷ 4 ∷ []) ∷ []) ∷ ((6 ∷ 7 ∷ 5 ∷ []) ∷ []) ∷ []
notched_loops = refl

-- two that overlap: a corner of the second lies in the first
abbrev low : Side
low = tetrahedron (at (pos 0) (pos 0) (pos 0) ∷ at (pos 4) (pos 0) (pos 0) ∷ at (pos 0) (pos 4) (pos 0) ∷ at (pos 0) (pos 0) (pos 4) ∷ [])

abbrev high : Side
high = tetrahedron (at (pos 1) (pos 1) (pos 1) ∷ at (pos 5) (pos 1) (pos 1) ∷ at (pos 1) (pos 5) (pos 1) ∷ at (pos 1) (pos 1) (pos 5) ∷ [])

abbrev corner : Numbers
corner = record {
  w03 = none;
  w30 = pos 1 ∷ pos 0 ∷ pos 0 ∷ pos 0 ∷ [];
  x12 = [];
  x21 = hit 0 2 (pos 1) (at (pos 1) (pos 2) (pos 1)) ∷ hit 2 2 (negsuc 0) (at (pos 2) (pos 1) (pos 1)) ∷ hit 5 2 (negsuc 0) (at (pos 1) (pos 1) (pos 2)) ∷ [];
}

common_corner : all_faces Intersect low high corner ≡
    [] ∷ [] ∷ ((2, 1) ∷ (3, 2) ∷ (1, 3) ∷ []) ∷ [] ∷ ((0, 1) ∷ (2, 0) ∷ (1, 2) ∷ []) ∷ ((0, 2) ∷ (3, 0) ∷ (2, 3) ∷ []) ∷ [] ∷ ((1, 0) ∷ (0, 3) ∷ (3, 1) ∷ []) ∷ []
common_corner = refl
