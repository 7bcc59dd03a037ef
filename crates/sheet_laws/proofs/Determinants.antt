-- Determinants of points: of those of a plane they are multiples of their turns in it.
use Rattle.std.proofs.Common.{◌≡◌, ◌<◌, ◌∷◌, ◌∙◌, ℕ, zero, suc, ℤ, pos, List, [], ap, arith, sym}
use Rattle.std.specs.Prelude.{◌+ℤ◌, ◌-ℤ◌, ◌*ℤ◌}
use Rattle.std.proofs.Math.IntN.{*ℤ-zero, *ℤ_comm}
use Rattle.std.proofs.lemmas.Int.{ints}
use Rattle.chain_laws.specs.Products.{mul-add, mul-assoc, mul-sub, sub-mul}
use Rattle.face_plane.specs.Planes.{flat_point, plane_drop, turn}
use Rattle.face_plane.proofs.Dropped.{all_none}
use Rattle.mesh_terms.specs.Points.{coordinate_of, cross_product, cross_x, cross_y, cross_z}
use Rattle.mesh_terms.specs.Volume.{determinant}
use Rattle.plane_laws.specs.Areas.{Place, area, area_is, exchanged, minor, no_volume}
use Rattle.sheet_terms.specs.Cuts.{scalar}

-- a determinant with three columns of numbers, opened along its last column
three_first : (a b c : ℤ) → c *ℤ (a *ℤ b) ≡ a *ℤ (b *ℤ c)
three_first a b c = exchanged c a b ∙ ap (λ t. a *ℤ t) (*ℤ_comm c b)

three_swapped : (a b c : ℤ) → c *ℤ (b *ℤ a) ≡ a *ℤ (b *ℤ c)
three_swapped a b c = ap (λ t. c *ℤ t) (*ℤ_comm b a) ∙ three_first a b c

abbrev place : ℤ → ℤ → Place
place u v = record { x = u; y = v }

opened : (ax ay az bx by bz cx cy cz : ℤ) → (ax *ℤ (by *ℤ cz -ℤ bz *ℤ cy) +ℤ ay *ℤ (bz *ℤ cx -ℤ bx *ℤ cz)) +ℤ az *ℤ (bx *ℤ cy -ℤ by *ℤ cx)
    ≡ (az *ℤ minor (place bx by) (place cx cy) +ℤ bz *ℤ minor (place cx cy) (place ax ay)) +ℤ cz *ℤ minor (place ax ay) (place bx by)
opened ax ay az bx by bz cx cy cz =
    omega (
      arith,
      ints,
      mul-sub ax (by *ℤ cz) (bz *ℤ cy),
      mul-sub ay (bz *ℤ cx) (bx *ℤ cz),
      mul-sub az (bx *ℤ cy) (by *ℤ cx),
      mul-sub az (bx *ℤ cy) (cx *ℤ by),
      mul-sub bz (cx *ℤ ay) (ax *ℤ cy),
      mul-sub cz (ax *ℤ by) (bx *ℤ ay),
      ap (λ t. az *ℤ t) (*ℤ_comm cx by),
      three_last ay bz cx,
      exchanged bz ax cy,
      three_first ax by cz,
      three_swapped ay bx cz,
    )
  where
    three_last : (a b c : ℤ) → b *ℤ (c *ℤ a) ≡ a *ℤ (b *ℤ c)
    three_last a b c = ap (λ t. b *ℤ t) (*ℤ_comm c a) ∙ exchanged b a c

-- a determinant stays where its rows go round, and turns its sign where two are exchanged
pub det_rotates : (a b c : List ℤ) → determinant b c a ≡ determinant a b c
det_rotates a b c =
    let on : List ℤ → ℕ → ℤ = coordinate_of in
    omega (
      arith,
      ints,
      opened (on a 0) (on a 1) (on a 2) (on b 0) (on b 1) (on b 2) (on c 0) (on c 1) (on c 2),
      opened (on b 0) (on b 1) (on b 2) (on c 0) (on c 1) (on c 2) (on a 0) (on a 1) (on a 2),
    )

opposite_minors : (z : ℤ) (s t : Place) → z *ℤ minor s t +ℤ z *ℤ minor t s ≡ pos 0
opposite_minors z s t =
    let none : minor s t +ℤ minor t s ≡ pos 0 = omega (arith, ints) in sym (mul-add z (minor s t) (minor t s)) ∙ ap (λ m. z *ℤ m) none ∙ *ℤ-zero z

pub det_turns : (a b c : List ℤ) → determinant a c b +ℤ determinant a b c ≡ pos 0
det_turns a b c =
    let on : List ℤ → ℕ → ℤ = coordinate_of in
    let s = place (on a 0) (on a 1) in
    let t = place (on b 0) (on b 1) in
    let v = place (on c 0) (on c 1) in
    omega (
      arith,
      ints,
      opened (on a 0) (on a 1) (on a 2) (on b 0) (on b 1) (on b 2) (on c 0) (on c 1) (on c 2),
      opened (on a 0) (on a 1) (on a 2) (on c 0) (on c 1) (on c 2) (on b 0) (on b 1) (on b 2),
      opposite_minors (on a 2) t v,
      opposite_minors (on b 2) v s,
      opposite_minors (on c 2) s t,
    )

-- the same over the other coordinate of the places
no_volume_y : (s t v : Place) → s.y *ℤ minor t v +ℤ t.y *ℤ minor v s +ℤ v.y *ℤ minor s t ≡ pos 0
no_volume_y s t v =
    let other = no_volume (place s.y s.x) (place t.y t.x) (place v.y v.x) in
    omega (
      arith,
      ints,
      other,
      mul-sub s.y (t.x *ℤ v.y) (v.x *ℤ t.y),
      mul-sub t.y (v.x *ℤ s.y) (s.x *ℤ v.y),
      mul-sub v.y (s.x *ℤ t.y) (t.x *ℤ s.y),
      mul-sub s.y (t.y *ℤ v.x) (v.y *ℤ t.x),
      mul-sub t.y (v.y *ℤ s.x) (s.y *ℤ v.x),
      mul-sub v.y (s.y *ℤ t.x) (t.y *ℤ s.x),
      ap (λ z. s.y *ℤ z) (*ℤ_comm t.x v.y),
      ap (λ z. s.y *ℤ z) (*ℤ_comm v.x t.y),
      ap (λ z. t.y *ℤ z) (*ℤ_comm v.x s.y),
      ap (λ z. t.y *ℤ z) (*ℤ_comm s.x v.y),
      ap (λ z. v.y *ℤ z) (*ℤ_comm s.x t.y),
      ap (λ z. v.y *ℤ z) (*ℤ_comm t.x s.y),
    )

-- a height over a plane, times how much of the normal stands on it, times a number
one_height : (k n o d x y z w : ℤ) → (n *ℤ x +ℤ o *ℤ y) +ℤ k *ℤ z ≡ d → k *ℤ (z *ℤ w) ≡ (d *ℤ w -ℤ n *ℤ (x *ℤ w)) -ℤ o *ℤ (y *ℤ w)
one_height k n o d x y z w on =
    let rest : k *ℤ z ≡ (d -ℤ n *ℤ x) -ℤ o *ℤ y = omega (arith, ints, on) in
    sym (mul-assoc k z w) ∙ ap (λ t. t *ℤ w) rest ∙ sub-mul (d -ℤ n *ℤ x) (o *ℤ y) w ∙ ap (λ t. t -ℤ (o *ℤ y) *ℤ w) (sub-mul d (n *ℤ x) w)
    ∙ ap (λ t. (d *ℤ w -ℤ t) -ℤ (o *ℤ y) *ℤ w) (mul-assoc n x w) ∙ ap (λ t. (d *ℤ w -ℤ n *ℤ (x *ℤ w)) -ℤ t) (mul-assoc o y w)

-- three heights over three places of a plane
in_plane : (k n o d : ℤ) (s t v : Place) (p q r : ℤ) → (n *ℤ s.x +ℤ o *ℤ s.y) +ℤ k *ℤ p ≡ d → (n *ℤ t.x +ℤ o *ℤ t.y) +ℤ k *ℤ q ≡ d → (n *ℤ v.x +ℤ o *ℤ v.y) +ℤ k *ℤ r ≡ d →
    k *ℤ ((p *ℤ minor t v +ℤ q *ℤ minor v s) +ℤ r *ℤ minor s t) ≡ d *ℤ area s t v
in_plane k n o d s t v p q r on_s on_t on_v =
    let first = minor t v in
    let second = minor v s in
    let third = minor s t in
    let left = mul-add k (p *ℤ first +ℤ q *ℤ second) (r *ℤ third) ∙ ap (λ z. z +ℤ k *ℤ (r *ℤ third)) (mul-add k (p *ℤ first) (q *ℤ second)) in
    let right = mul-add d (minor s t +ℤ minor t v) (minor v s) ∙ ap (λ z. z +ℤ d *ℤ minor v s) (mul-add d (minor s t) (minor t v)) in
    let over_x = none n (s.x *ℤ first) (t.x *ℤ second) (v.x *ℤ third) (no_volume s t v) in
    let over_y = none o (s.y *ℤ first) (t.y *ℤ second) (v.y *ℤ third) (no_volume_y s t v) in
    omega (arith, ints, left, right, over_x, over_y, one_height k n o d s.x s.y p first on_s, one_height k n o d t.x t.y q second on_t, one_height k n o d v.x v.y r third on_v)
  where
    none : (n a b c : ℤ) → a +ℤ b +ℤ c ≡ pos 0 → n *ℤ a +ℤ n *ℤ b +ℤ n *ℤ c ≡ pos 0
    none n a b c e = omega (arith, ints, mul-add n (a +ℤ b) c, mul-add n a b, ap (λ z. n *ℤ z) e, *ℤ-zero n)

-- a turn is the area of the three places
turn_area : (a b c : ℤ × ℤ) → turn a b c ≡ area (place a.0 a.1) (place b.0 b.1) (place c.0 c.1)
turn_area a b c = ap (λ z. (b.0 -ℤ a.0) *ℤ (c.1 -ℤ a.1) -ℤ z) (*ℤ_comm (b.1 -ℤ a.1) (c.0 -ℤ a.0)) ∙ area_is (place a.0 a.1) (place b.0 b.1) (place c.0 c.1)

-- three points of the plane of a normal n at a level d: their determinant times the coordinate of n on the dropped axis is d times their turn in the plane
pub plane_determinant : (n : List ℤ) (d : ℤ) (drop_axis : ℕ) (a b c : List ℤ) → drop_axis < 3 → scalar n a ≡ d → scalar n b ≡ d → scalar n c ≡ d →
    coordinate_of n drop_axis *ℤ determinant a b c ≡ d *ℤ turn (flat_point drop_axis a) (flat_point drop_axis b) (flat_point drop_axis c)
plane_determinant n d zero a b c axis a_in b_in c_in =
    let on : List ℤ → ℕ → ℤ = coordinate_of in
    let same = opened (on a 1) (on a 2) (on a 0) (on b 1) (on b 2) (on b 0) (on c 1) (on c 2) (on c 0) in
    let turned : determinant a b c ≡ (on a 0 *ℤ minor (place (on b 1) (on b 2)) (place (on c 1) (on c 2)) +ℤ on b 0 *ℤ minor (place (on c 1) (on c 2))
    (place (on a 1) (on a 2))) +ℤ on c 0 *ℤ minor (place (on a 1) (on a 2)) (place (on b 1) (on b 2)) = omega (arith, ints, same) in
    ap (λ z. on n 0 *ℤ z) turned
    ∙ in_plane (on n 0) (on n 1) (on n 2) d (place (on a 1) (on a 2)) (place (on b 1) (on b 2)) (place (on c 1) (on c 2)) (on a 0) (on b 0) (on c 0)
    (omega (arith, ints, a_in)) (omega (arith, ints, b_in)) (omega (arith, ints, c_in))
    ∙ ap (λ z. d *ℤ z) (sym (turn_area (flat_point 0 a) (flat_point 0 b) (flat_point 0 c)))
plane_determinant n d (suc zero) a b c axis a_in b_in c_in =
    let on : List ℤ → ℕ → ℤ = coordinate_of in
    let same = opened (on a 2) (on a 0) (on a 1) (on b 2) (on b 0) (on b 1) (on c 2) (on c 0) (on c 1) in
    let turned : determinant a b c ≡ (on a 1 *ℤ minor (place (on b 2) (on b 0)) (place (on c 2) (on c 0)) +ℤ on b 1 *ℤ minor (place (on c 2) (on c 0))
    (place (on a 2) (on a 0))) +ℤ on c 1 *ℤ minor (place (on a 2) (on a 0)) (place (on b 2) (on b 0)) = omega (arith, ints, same) in
    ap (λ z. on n 1 *ℤ z) turned
    ∙ in_plane (on n 1) (on n 2) (on n 0) d (place (on a 2) (on a 0)) (place (on b 2) (on b 0)) (place (on c 2) (on c 0)) (on a 1) (on b 1) (on c 1)
    (omega (arith, ints, a_in)) (omega (arith, ints, b_in)) (omega (arith, ints, c_in))
    ∙ ap (λ z. d *ℤ z) (sym (turn_area (flat_point 1 a) (flat_point 1 b) (flat_point 1 c)))
plane_determinant n d (suc (suc zero)) a b c axis a_in b_in c_in =
    let on : List ℤ → ℕ → ℤ = coordinate_of in
    let same = opened (on a 0) (on a 1) (on a 2) (on b 0) (on b 1) (on b 2) (on c 0) (on c 1) (on c 2) in
    ap (λ z. on n 2 *ℤ z) same
    ∙ in_plane (on n 2) (on n 0) (on n 1) d (place (on a 0) (on a 1)) (place (on b 0) (on b 1)) (place (on c 0) (on c 1)) (on a 2) (on b 2) (on c 2) a_in b_in c_in
    ∙ ap (λ z. d *ℤ z) (sym (turn_area (flat_point 2 a) (flat_point 2 b) (flat_point 2 c)))
plane_determinant n d (suc (suc (suc k))) a b c axis a_in b_in c_in = absurd (omega (arith, axis))

-- the dropped axis is one on which the normal is not 0, where it is not 0 on all
pub drop_counts : (a b c : List ℤ) → (cross_product a b c ≡ pos 0 ∷ pos 0 ∷ pos 0 ∷ [] → ⊥) → coordinate_of (cross_product a b c) (plane_drop a b c) ≡ pos 0 → ⊥
drop_counts a b c some zero_there =
    let none = all_none (cross_x a b c) (cross_y a b c) (cross_z a b c) zero_there in
    let x = none.x_none in
    let y = none.y_none in
    let z = none.z_none in
    some cc
