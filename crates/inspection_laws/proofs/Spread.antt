-- Three places that are not on a line: weights that add up to 0 and move nowhere are 0.
use Rattle.std.specs.Prelude.{◌≡◌, ◌≢◌, ℤ, pos, neg_ℤ, ◌+ℤ◌, ◌-ℤ◌, ◌*ℤ◌, Bool, true, false, ◌&&◌}
use Rattle.std.specs.Ordering.{int_eq}
use Rattle.std.proofs.Common.{arith, refl, sym, ap, ◌∙◌}
use Rattle.std.proofs.lemmas.Int.{ints}
use Rattle.std.proofs.lemmas.Bool.Decides.{Decides-int_eq}
use Rattle.std.proofs.Math.IntN.{*ℤ_comm}
use Rattle.chain_laws.specs.Products.{add-mul, mul-sub, mul-neg, neg-mul}
use Rattle.plane_laws.specs.Decisions.{Vector, face_normal}
use Rattle.inspection_terms.specs.Triangles.{Corners, is_flat}
use Rattle.inspection_laws.proofs.Numbers.{cramer, other_zero, by_sign}

-- weights that add up to 0 and move nowhere are 0
pub record IsSpread (t : Corners) : Type 0 where
  pub first : (a b c : ℤ) → a +ℤ b +ℤ c ≡ pos 0 → a *ℤ t.0.x +ℤ b *ℤ t.1.x +ℤ c *ℤ t.2.x ≡ pos 0 → a *ℤ t.0.y +ℤ b *ℤ t.1.y +ℤ c *ℤ t.2.y ≡ pos 0 →
      a *ℤ t.0.z +ℤ b *ℤ t.1.z +ℤ c *ℤ t.2.z ≡ pos 0 → (a ≡ pos 0) × (b ≡ pos 0) × (c ≡ pos 0)

-- seen from the first place, on one axis
seen : (a b c u v t : ℤ) → a +ℤ b +ℤ c ≡ pos 0 → a *ℤ u +ℤ b *ℤ v +ℤ c *ℤ t ≡ pos 0 → b *ℤ (v -ℤ u) +ℤ c *ℤ (t -ℤ u) ≡ pos 0
seen a b c u v t s e =
    let d : (neg_ℤ b +ℤ neg_ℤ c) *ℤ u ≡ a *ℤ u = ap (λ (z : ℤ). z *ℤ u) (omega (arith, ints, s)) in
    omega (arith, ints, e, d, mul-sub b v u, mul-sub c t u, add-mul (neg_ℤ b) (neg_ℤ c) u, neg-mul b u, neg-mul c u)

-- two axes on which the doubled area is not 0
pub on_axes : (a b c ux uy vx vy tx ty : ℤ) → (vx -ℤ ux) *ℤ (ty -ℤ uy) -ℤ (vy -ℤ uy) *ℤ (tx -ℤ ux) ≢ pos 0 → a +ℤ b +ℤ c ≡ pos 0 →
    a *ℤ ux +ℤ b *ℤ vx +ℤ c *ℤ tx ≡ pos 0 → a *ℤ uy +ℤ b *ℤ vy +ℤ c *ℤ ty ≡ pos 0 → (a ≡ pos 0) × (b ≡ pos 0) × (c ≡ pos 0)
on_axes a b c ux uy vx vy tx ty some s e f =
    let x = vx -ℤ ux in
    let y = vy -ℤ uy in
    let z = tx -ℤ ux in
    let w = ty -ℤ uy in
    let g : b *ℤ x +ℤ c *ℤ z ≡ pos 0 = seen a b c ux vx tx s e in
    let h : b *ℤ y +ℤ c *ℤ w ≡ pos 0 = seen a b c uy vy ty s f in
    let hb : b ≡ pos 0 = other_zero (x *ℤ w -ℤ y *ℤ z) b some (cramer b c x y z w g h) in
    let back : (z *ℤ y -ℤ w *ℤ x) *ℤ c ≡ pos 0 = cramer c b z w x y (omega (arith, ints, g)) (omega (arith, ints, h)) in
    let hc : c ≡ pos 0 = other_zero (z *ℤ y -ℤ w *ℤ x) c (λ n. some (omega (arith, ints, n, *ℤ_comm x w, *ℤ_comm y z))) back in
    (omega (arith, ints, s, hb, hc), hb, hc)

-- a triangle that is not flat has a normal that is not 0
pub by_axis : {P : Type 0} (n : Vector) → (int_eq n.x (pos 0) && int_eq n.y (pos 0) && int_eq n.z (pos 0)) ≡ false → (n.x ≢ pos 0 → P) → (n.y ≢ pos 0 → P) → (n.z ≢ pos 0 → P) → P
by_axis {P} n flat f g h = by (int_eq n.x (pos 0)) (int_eq n.y (pos 0)) (int_eq n.z (pos 0)) refl refl refl flat where
  not_zero : (z : ℤ) → int_eq z (pos 0) ≡ false → z ≢ pos 0
  not_zero z e k = let t : int_eq z (pos 0) ≡ true = (Decides-int_eq z (pos 0)).1 k in cc

  by : (s t w : Bool) → int_eq n.x (pos 0) ≡ s → int_eq n.y (pos 0) ≡ t → int_eq n.z (pos 0) ≡ w → (s && t && w) ≡ false → P
  by false t w e k l z = f (not_zero n.x e)
  by true false w e k l z = g (not_zero n.y k)
  by true true false e k l z = h (not_zero n.z l)
  by true true true e k l z = absurd (cc)

-- so its places are spread
pub spread : (t : Corners) → is_flat t ≡ false → IsSpread t
spread t flat = by_axis (face_normal t.0 t.1 t.2) flat
    (λ n. record { first = λ a b c s x y z. on_axes a b c t.0.y t.0.z t.1.y t.1.z t.2.y t.2.z n s y z })
    (λ n. record { first = λ a b c s x y z. on_axes a b c t.0.z t.0.x t.1.z t.1.x t.2.z t.2.x n s z x })
    (λ n. record { first = λ a b c s x y z. on_axes a b c t.0.x t.0.y t.1.x t.1.y t.2.x t.2.y n s x y })
