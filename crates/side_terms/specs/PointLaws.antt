-- The corners of points lie at those points.
use Rattle.std.specs.Prelude.{◌≡◌, ℤ, pos, negsuc, ◌*ℤ◌, Bool, List, [], ◌∷◌, length}
use Rattle.std.specs.Int.{int_div_euclid}
use Rattle.std.specs.List.{All}
use Rattle.std.proofs.Common.{arith, refl}
use Rattle.std.proofs.lemmas.Int.{ints}
use Rattle.std.proofs.lemmas.List.Elements.{All-head, All-tail}
use Rattle.mb_base.specs.declared.TheConstants.{UNIT}
use Rattle.mesh_terms.specs.Points.{IsPoint, coordinate_of}
use Rattle.side_terms.specs.Sides.{corner_of, corners_of}
use Rattle.side_terms.specs.Points.{point_of, points_of}

-- the statement, for points that have a list of marks each
abbrev pub CornersGivePoints : Type 0
CornersGivePoints = (points : List (List ℤ)) (ups : List (List Bool)) → All IsPoint points → length ups ≡ length points → points_of (corners_of points ups) ≡ points

-- a whole number of grid steps, taken to fine steps and back
there : (fine z : ℤ) → fine ≡ UNIT *ℤ z → int_div_euclid fine UNIT ≡ z
there (pos n) z e = omega (arith, ints, e)
there (negsuc n) z e = omega (arith, ints, e)

there_and_back : (z : ℤ) → int_div_euclid (UNIT *ℤ z) UNIT ≡ z
there_and_back z = there (UNIT *ℤ z) z refl

-- a list of three by its coordinates
by_coordinates : (p : List ℤ) → length p ≡ 3 → coordinate_of p 0 ∷ coordinate_of p 1 ∷ coordinate_of p 2 ∷ [] ≡ p
by_coordinates [] h = absurd (omega (arith, h))
by_coordinates (x ∷ []) h = absurd (omega (arith, h))
by_coordinates (x ∷ (y ∷ [])) h = absurd (omega (arith, h))
by_coordinates (x ∷ (y ∷ (z ∷ []))) h = refl
by_coordinates (x ∷ (y ∷ (z ∷ (w ∷ r)))) h = absurd (omega (arith, h))

-- the corner of a point lies at it
point_back : (p : List ℤ) (up : List Bool) → length p ≡ 3 → point_of (corner_of p up) ≡ p
point_back p up three =
    let x = there_and_back (coordinate_of p 0) in
    let y = there_and_back (coordinate_of p 1) in
    let z = there_and_back (coordinate_of p 2) in
    let whole = by_coordinates p three in cc

pub corners_points : CornersGivePoints
corners_points [] [] h e = refl
corners_points [] (u ∷ us) h e = refl
corners_points (p ∷ ps) [] h e = absurd (omega (arith, e))
corners_points (p ∷ ps) (u ∷ us) h e =
    let here = point_back p u (All-head IsPoint p ps h).three in
    let rest = corners_points ps us (All-tail IsPoint p ps h) (omega (arith, e)) in cc
