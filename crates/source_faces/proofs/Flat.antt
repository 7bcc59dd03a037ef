-- Three points lie on a line exactly where they do in the plane that drops the axis of the greatest part of their cross product.
use Rattle.std.specs.Prelude.{◌≡◌, ℕ, zero, suc, ◌<◌, ℤ, pos, neg_ℤ, List, [], ◌∷◌, true, Bool}
use Rattle.std.specs.Prelude.{◌&&◌}
use Rattle.std.proofs.Common.{arith, refl, ap, ◌∙◌}
use Rattle.std.specs.Cmp.{both_ways as same_test}
use Rattle.std.specs.Ordering.{int_eq}
use Rattle.std.proofs.lemmas.Int.{ints}
use Rattle.std.proofs.lemmas.Bool.{and_from, and_parts}
use Rattle.std.proofs.lemmas.Bool.Decides.{Decides-int_eq}
use Rattle.mesh_terms.specs.Points.{coordinate_of, cross_product, cross_x, cross_y, cross_z}
use Rattle.face_plane.specs.Planes.{flat_point, plane_drop, turn}
use Rattle.face_plane.proofs.Dropped.{all_none, drop_below, turn_on_axis}
use Rattle.triangulate.proofs.Areas.{areas}

-- whether three numbers are 0
abbrev are_none : ℤ → ℤ → ℤ → Bool
are_none x y z = int_eq x (pos 0) && int_eq y (pos 0) && int_eq z (pos 0)

-- where all are, each is
each_none : (x y z : ℤ) (axis : ℕ) → axis < 3 → x ≡ pos 0 → y ≡ pos 0 → z ≡ pos 0 → coordinate_of (x ∷ y ∷ z ∷ []) axis ≡ pos 0
each_none x y z zero low a b c = a
each_none x y z (suc zero) low a b c = b
each_none x y z (suc (suc zero)) low a b c = c
each_none x y z (suc (suc (suc k))) low a b c = absurd (omega (arith, low))

-- the turn of three points in their plane
abbrev pub plane_turn : List ℤ → List ℤ → List ℤ → ℤ
plane_turn a b c = turn (flat_point (plane_drop a b c) a) (flat_point (plane_drop a b c) b) (flat_point (plane_drop a b c) c)

-- it is 0 exactly where the three lie on a line
pub turn_tells : (a b c : List ℤ) →
    int_eq (plane_turn a b c) (pos 0) ≡
    are_none (coordinate_of (cross_product a b c) 0) (coordinate_of (cross_product a b c) 1) (coordinate_of (cross_product a b c) 2)
turn_tells a b c =
    let x = cross_x a b c in
    let y = cross_y a b c in
    let z = cross_z a b c in
    let axis = plane_drop a b c in
    let greatest = coordinate_of (cross_product a b c) axis in
    let zero_test : (w : ℤ) → int_eq w (pos 0) ≡ true → w ≡ pos 0 = λ w. (Decides-int_eq w (pos 0)).0 in
    let zero_is : (w : ℤ) → w ≡ pos 0 → int_eq w (pos 0) ≡ true = λ w. (Decides-int_eq w (pos 0)).1 in
    ap (λ w. int_eq w (pos 0)) (turn_on_axis axis a b c (drop_below a b c))
    ∙ same_test (int_eq greatest (pos 0)) (are_none x y z)
    (λ h. let all = all_none x y z (zero_test greatest h) in
    and_from (int_eq x (pos 0) && int_eq y (pos 0)) (int_eq z (pos 0))
    (and_from (int_eq x (pos 0)) (int_eq y (pos 0)) (zero_is x all.x_none) (zero_is y all.y_none)) (zero_is z all.z_none))
    (λ h. let last = and_parts (int_eq x (pos 0) && int_eq y (pos 0)) (int_eq z (pos 0)) h in
    let first = and_parts (int_eq x (pos 0)) (int_eq y (pos 0)) last.0 in
    zero_is greatest (each_none x y z axis (drop_below a b c) (zero_test x first.0) (zero_test y first.1) (zero_test z last.1)))

-- a number and its negative are 0 together
negative_tells : (z : ℤ) → int_eq (neg_ℤ z) (pos 0) ≡ int_eq z (pos 0)
negative_tells z =
    same_test (int_eq (neg_ℤ z) (pos 0)) (int_eq z (pos 0))
    (λ h. let e = (Decides-int_eq (neg_ℤ z) (pos 0)).0 h in (Decides-int_eq z (pos 0)).1 (omega (arith, ints, e)))
    (λ h. let e = (Decides-int_eq z (pos 0)).0 h in (Decides-int_eq (neg_ℤ z) (pos 0)).1 (omega (arith, ints, e)))

-- points in another order turn the other way
turned_back : (p q r : ℤ × ℤ) → turn q p r ≡ neg_ℤ (turn p q r)
turned_back p q r =
    let at = three_points p q r in
    let one = areas at ((0 ∷ 1 ∷ 2 ∷ []) ∷ []) ((0, 1, 2) ∷ []) (λ f odd. refl) in
    let other = areas at ((1 ∷ 0 ∷ 2 ∷ []) ∷ []) ((1, 0, 2) ∷ []) (λ f odd. refl) in
    omega (arith, ints, one, other)
  where
    three_points : ℤ × ℤ → ℤ × ℤ → ℤ × ℤ → ℕ → ℤ × ℤ
    three_points p q r zero = p
    three_points p q r (suc zero) = q
    three_points p q r (suc (suc n)) = r

-- so the first two points exchanged, the turn is 0 where it was
pub turned_tells : (p q r : ℤ × ℤ) → int_eq (turn q p r) (pos 0) ≡ int_eq (turn p q r) (pos 0)
turned_tells p q r = ap (λ z. int_eq z (pos 0)) (turned_back p q r) ∙ negative_tells (turn p q r)
