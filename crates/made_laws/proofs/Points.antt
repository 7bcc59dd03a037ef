-- Rows of three coordinates on the grid are points of it.
use Rattle.std.proofs.Common.{◌≡◌, ℕ, ℤ, neg_ℤ, Bool, true, false, List, [], ◌∷◌, length, map, refl, ◌∙◌, arith}
use Rattle.std.specs.Prelude.{◌&&◌, ◌==◌, if◌then◌else◌}
use Rattle.std.specs.List.{All, list_all}
use Rattle.std.proofs.lemmas.Bool.{and_parts, eqb-true}
use Rattle.std.proofs.lemmas.Bool.Decides.{nat_tests}
use Rattle.std.proofs.lemmas.List.Elements.{All-nil, All-cons}
use Rattle.std.proofs.lemmas.List.Folds.{list_all-map}
use Rattle.std.proofs.lemmas.List.Sums.{list_all-from_AllPass}
use Rattle.chain_laws.specs.Signs.{nat_abs-neg}
use Rattle.made_terms.specs.Motions.{mirrored, quarter_turned}
use Rattle.made_terms.specs.Refusals.{is_grid_point, all_on_grid}
use Rattle.made_terms.specs.Solids.{point}
use Rattle.mesh_terms.specs.Points.{IsOnGrid, IsPoint, coordinate_of}
use Rattle.text_terms.specs.Numbers.{is_on_grid}

-- a row of three
abbrev pub is_three : List ℤ → Bool
is_three p = length p == 3

on_grid : (z : ℤ) → is_on_grid z ≡ true → IsOnGrid z
on_grid z h = grind (arith, nat_tests, h)

-- a row of three that are on the grid is a point
point_by_tests : (p : List ℤ) → is_three p ≡ true → is_grid_point p ≡ true → IsPoint p
point_by_tests p three on =
    let last = and_parts (is_on_grid (coordinate_of p 0) && is_on_grid (coordinate_of p 1)) (is_on_grid (coordinate_of p 2)) on in
    let first = and_parts (is_on_grid (coordinate_of p 0)) (is_on_grid (coordinate_of p 1)) last.0 in
    record {
      three = eqb-true (length p) 3 three;
      x = on_grid (coordinate_of p 0) first.0;
      y = on_grid (coordinate_of p 1) first.1;
      z = on_grid (coordinate_of p 2) last.1;
    }

-- so are all
pub points_by_tests : (ps : List (List ℤ)) → list_all is_three ps ≡ true → all_on_grid ps ≡ true → All IsPoint ps
points_by_tests [] three on = All-nil IsPoint
points_by_tests (p ∷ ps) three on =
    let threes = and_parts (is_three p) (list_all is_three ps) three in
    let grid = and_parts (is_grid_point p) (all_on_grid ps) on in
    All-cons IsPoint p ps (point_by_tests p threes.0 grid.0) (points_by_tests ps threes.1 grid.1)

-- where f gives rows of three, those of all are points where they are on the grid
pub moved_points : (f : List ℤ → List ℤ) (ps : List (List ℤ)) → ((p : List ℤ) → is_three (f p) ≡ true) → all_on_grid (map f ps) ≡ true → All IsPoint (map f ps)
moved_points f ps three on =
    points_by_tests (map f ps) (list_all-map is_three f ps ∙ list_all-from_AllPass (λ p. is_three (f p)) ps (λ k d low. three _)) on

other_sign : (z : ℤ) → IsOnGrid z → IsOnGrid (neg_ℤ z)
other_sign z h = omega (arith, h, nat_abs-neg z)

point_on_grid : (x y z : ℤ) → IsOnGrid x → IsOnGrid y → IsOnGrid z → IsPoint (point x y z)
point_on_grid x y z a b c = record { three = refl; x = a; y = b; z = c }

one_of : (b : Bool) (p q : List ℤ) → IsPoint p → IsPoint q → IsPoint (if b then p else q)
one_of true p q g h = g
one_of false p q g h = h

-- a mirrored point is one, whatever the axis
pub mirrored_point : (axis : ℕ) (p : List ℤ) → IsPoint p → IsPoint (mirrored axis p)
mirrored_point axis p h =
    let x = coordinate_of p 0 in
    let y = coordinate_of p 1 in
    let z = coordinate_of p 2 in
    one_of (axis == 0) _ _ (point_on_grid (neg_ℤ x) y z (other_sign x h.x) h.y h.z)
    (one_of (axis == 1) _ _ (point_on_grid x (neg_ℤ y) z h.x (other_sign y h.y) h.z) (point_on_grid x y (neg_ℤ z) h.x h.y (other_sign z h.z)))

-- and so is a turned one
pub turned_point : (axis : ℕ) (p : List ℤ) → IsPoint p → IsPoint (quarter_turned axis p)
turned_point axis p h =
    let x = coordinate_of p 0 in
    let y = coordinate_of p 1 in
    let z = coordinate_of p 2 in
    one_of (axis == 0) _ _ (point_on_grid x (neg_ℤ z) y h.x (other_sign z h.z) h.y)
    (one_of (axis == 1) _ _ (point_on_grid z y (neg_ℤ x) h.z h.y (other_sign x h.x)) (point_on_grid (neg_ℤ y) x z (other_sign y h.y) h.x h.z))
