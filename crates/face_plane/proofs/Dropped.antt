-- The axis that a plane drops: on it the cross product is 0 where it is 0 on all axes alone.
use Rattle.std.proofs.Common.{◌≡◌, ◌<◌, ◌∷◌, ℕ, zero, suc, ℤ, pos, negsuc, Bool, List, [], true, false, ap, arith, refl}
use Rattle.std.specs.Prelude.{◌&&◌, if◌then◌else◌, nat_lt, not, unsigned_abs}
use Rattle.std.proofs.lemmas.Bool.{ltb-false, ltb-true}
use Rattle.mesh_terms.specs.Points.{coordinate_of, cross_product, cross_x, cross_y, cross_z}
use Rattle.face_plane.specs.Planes.{flat_point, greatest_axis, plane_drop, turn}

-- a number without a size is 0
pub no_size : (z : ℤ) → unsigned_abs z ≡ 0 → z ≡ pos 0
no_size (pos zero) e = refl
no_size (pos (suc m)) e = absurd (omega (arith, e))
no_size (negsuc m) e = absurd (omega (arith, e))

-- three numbers that are 0
pub record AllNone (x y z : ℤ) : Type 0 where
  pub x_none : x ≡ pos 0
  pub y_none : y ≡ pos 0
  pub z_none : z ≡ pos 0

-- they are where the one of greatest size is
pub all_none : (x y z : ℤ) → coordinate_of (x ∷ y ∷ z ∷ []) (greatest_axis (unsigned_abs x) (unsigned_abs y) (unsigned_abs z)) ≡ pos 0 → AllNone x y z
all_none x y z e =
    let sizes : ℤ → ℕ = unsigned_abs in by (nat_lt (sizes z) (sizes x)) (nat_lt (sizes z) (sizes y)) (nat_lt (sizes y) (sizes x)) refl refl refl e
  where
    size_of : (u : ℤ) → u ≡ pos 0 → unsigned_abs u ≡ 0
    size_of u e = ap unsigned_abs e

    by : (p q r : Bool) → nat_lt (unsigned_abs z) (unsigned_abs x) ≡ p → nat_lt (unsigned_abs z) (unsigned_abs y) ≡ q → nat_lt (unsigned_abs y) (unsigned_abs x) ≡ r →
        coordinate_of (x ∷ y ∷ z ∷ []) (if not p && not q then 2 else if not r then 1 else 0) ≡ pos 0 → AllNone x y z
    by false false r xz yz xy e =
        let none = size_of z e in
        record {
          x_none = no_size x (omega (arith, ltb-false (unsigned_abs z) (unsigned_abs x) xz, none));
          y_none = no_size y (omega (arith, ltb-false (unsigned_abs z) (unsigned_abs y) yz, none));
          z_none = e;
        }
    by true q false xz yz xy e = absurd (omega (arith, size_of y e, ltb-true (unsigned_abs z) (unsigned_abs x) xz, ltb-false (unsigned_abs y) (unsigned_abs x) xy))
    by true q true xz yz xy e = absurd (omega (arith, size_of x e, ltb-true (unsigned_abs z) (unsigned_abs x) xz))
    by false true false xz yz xy e = absurd (omega (arith, size_of y e, ltb-true (unsigned_abs z) (unsigned_abs y) yz))
    by false true true xz yz xy e = absurd (omega (arith, size_of x e, ltb-true (unsigned_abs y) (unsigned_abs x) xy))

-- the turn in the plane that drops an axis is the coordinate of the cross product on this axis
pub turn_on_axis : (drop_axis : ℕ) (a b c : List ℤ) → drop_axis < 3 →
    turn (flat_point drop_axis a) (flat_point drop_axis b) (flat_point drop_axis c) ≡ coordinate_of (cross_product a b c) drop_axis
turn_on_axis zero a b c axis = refl
turn_on_axis (suc zero) a b c axis = refl
turn_on_axis (suc (suc zero)) a b c axis = refl
turn_on_axis (suc (suc (suc k))) a b c axis = absurd (omega (arith, axis))

-- the dropped axis is one of the three
pub drop_below : (a b c : List ℤ) → plane_drop a b c < 3
drop_below a b c =
    let sizes : ℤ → ℕ = unsigned_abs in
    by (nat_lt (sizes (cross_z a b c)) (sizes (cross_x a b c))) (nat_lt (sizes (cross_z a b c)) (sizes (cross_y a b c))) (nat_lt (sizes (cross_y a b c)) (sizes (cross_x a b c)))
  where
    by : (p q r : Bool) → (if not p && not q then 2 else if not r then 1 else 0) < 3
    by false false r = omega arith
    by false true true = omega arith
    by false true false = omega arith
    by true q true = omega arith
    by true q false = omega arith
