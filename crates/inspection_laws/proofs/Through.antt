-- An edge whose ends lie on two sides of a triangle.
use Rattle.std.specs.Prelude.{◌≡◌, ◌≢◌, ℤ, pos, neg_ℤ, ◌+ℤ◌, ◌-ℤ◌, ◌*ℤ◌, ◌≤ℤ◌, ◌<ℤ◌, ◌⊎◌, Bool, true, false}
use Rattle.std.proofs.Common.{arith, refl, sym, ap, inl, inr, ◌∙◌}
use Rattle.std.proofs.lemmas.Int.{ints}
use Rattle.std.proofs.Math.IntN.{*ℤ_comm}
use Rattle.chain_laws.specs.Products.{add-mul, mul-add, mul-sub, sub-mul, mul-neg, neg-mul, mul-assoc, pos_mul, pos_factor}
use Rattle.plane_laws.specs.Areas.{exchanged}
use Rattle.plane_laws.specs.Decisions.{Vector}
use Rattle.plane_laws.specs.Moved.{nonneg_mul, times_zero}
use Rattle.plane_laws.specs.Signs.{Signed, Weak}
use Rattle.solid_terms.specs.Solids.{volume}
use Rattle.space_laws.specs.Places.{places_distances, places_distances_y, places_heights, volumes_whole}
use Rattle.inspection_terms.specs.Triangles.{Corners}
use Rattle.inspection_laws.specs.Signs.{goes_through, agree, are_opposite}
use Rattle.inspection_laws.proofs.Commons.{IsCommon, levels}
use Rattle.inspection_laws.proofs.Numbers.{by_sign, zero_times}
use Rattle.inspection_laws.proofs.Spread.{IsSpread}
use Rattle.inspection_laws.proofs.Tests.{Opposite, rising, falling, HaveWeak, yes_opposite, opposite_yes, yes_agree, agree_yes, both, and}

-- volumes weigh the corners at the point where the line of the edge goes through the plane
record AreWeights (d e : ℤ) (p q : Vector) (o : Corners) (a b c : ℤ) : Type 0 where
  whole : a +ℤ b +ℤ c ≡ e -ℤ d
  x : a *ℤ o.0.x +ℤ b *ℤ o.1.x +ℤ c *ℤ o.2.x ≡ e *ℤ p.x -ℤ d *ℤ q.x
  y : a *ℤ o.0.y +ℤ b *ℤ o.1.y +ℤ c *ℤ o.2.y ≡ e *ℤ p.y -ℤ d *ℤ q.y
  z : a *ℤ o.0.z +ℤ b *ℤ o.1.z +ℤ c *ℤ o.2.z ≡ e *ℤ p.z -ℤ d *ℤ q.z

on_axis : (d e a b c p q u v t : ℤ) → a +ℤ b +ℤ c ≡ e -ℤ d → d *ℤ (p -ℤ q) +ℤ a *ℤ (p -ℤ u) +ℤ b *ℤ (p -ℤ v) +ℤ c *ℤ (p -ℤ t) ≡ pos 0 →
    a *ℤ u +ℤ b *ℤ v +ℤ c *ℤ t ≡ e *ℤ p -ℤ d *ℤ q
on_axis d e a b c p q u v t w h =
    let s : (a +ℤ b +ℤ c) *ℤ p ≡ (e -ℤ d) *ℤ p = ap (λ (z : ℤ). z *ℤ p) w in
    omega (arith, ints, h, s, add-mul (a +ℤ b) c p, add-mul a b p, sub-mul e d p, mul-sub d p q, mul-sub a p u, mul-sub b p v, mul-sub c p t)

weights : (p q : Vector) (o : Corners) → AreWeights (volume p o.0 o.1 o.2) (volume q o.0 o.1 o.2) p q o (volume p q o.2 o.1) (volume p q o.0 o.2) (volume p q o.1 o.0)
weights p q o =
    let d = volume p o.0 o.1 o.2 in
    let e = volume q o.0 o.1 o.2 in
    let a = volume p q o.2 o.1 in
    let b = volume p q o.0 o.2 in
    let c = volume p q o.1 o.0 in
    let w : a +ℤ b +ℤ c ≡ e -ℤ d = by d e a b c (volumes_whole p q o.0 o.1 o.2) in
    record {
      whole = w;
      x = on_axis d e a b c p.x q.x o.0.x o.1.x o.2.x w (places_distances p q o.0 o.1 o.2);
      y = on_axis d e a b c p.y q.y o.0.y o.1.y o.2.y w (places_distances_y p q o.0 o.1 o.2);
      z = on_axis d e a b c p.z q.z o.0.z o.1.z o.2.z w (places_heights p q o.0 o.1 o.2);
    }
  where
    by : (d e a b c : ℤ) → d +ℤ a +ℤ b +ℤ c ≡ e → a +ℤ b +ℤ c ≡ e -ℤ d
    by d e a b c h = omega (arith, ints, h)

-- at a common point they are in proportion to its weights
proportion_axis : (d e P Q A B C a b c p q u v t : ℤ) → P *ℤ d +ℤ Q *ℤ e ≡ pos 0 → a *ℤ u +ℤ b *ℤ v +ℤ c *ℤ t ≡ e *ℤ p -ℤ d *ℤ q → A *ℤ u +ℤ B *ℤ v +ℤ C *ℤ t ≡ P *ℤ p +ℤ Q *ℤ q →
    ((P +ℤ Q) *ℤ a -ℤ (e -ℤ d) *ℤ A) *ℤ u +ℤ ((P +ℤ Q) *ℤ b -ℤ (e -ℤ d) *ℤ B) *ℤ v +ℤ ((P +ℤ Q) *ℤ c -ℤ (e -ℤ d) *ℤ C) *ℤ t ≡ pos 0
proportion_axis d e P Q A B C a b c p q u v t level h k =
    let K = P +ℤ Q in
    let D = e -ℤ d in
    let first : K *ℤ e ≡ D *ℤ P = omega (arith, ints, add-mul P Q e, sub-mul e d P, *ℤ_comm P e, *ℤ_comm P d, level) in
    let second : K *ℤ d ≡ neg_ℤ (D *ℤ Q) = omega (arith, ints, add-mul P Q d, sub-mul e d Q, *ℤ_comm Q e, *ℤ_comm Q d, level) in
    let hk : K *ℤ (a *ℤ u +ℤ b *ℤ v +ℤ c *ℤ t) ≡ K *ℤ (e *ℤ p -ℤ d *ℤ q) = ap (λ (z : ℤ). K *ℤ z) h in
    let kd : D *ℤ (A *ℤ u +ℤ B *ℤ v +ℤ C *ℤ t) ≡ D *ℤ (P *ℤ p +ℤ Q *ℤ q) = ap (λ (z : ℤ). D *ℤ z) k in
    let ep : K *ℤ (e *ℤ p) ≡ D *ℤ (P *ℤ p) = sym (mul-assoc K e p) ∙ ap (λ (z : ℤ). z *ℤ p) first ∙ mul-assoc D P p in
    let dq : K *ℤ (d *ℤ q) ≡ neg_ℤ (D *ℤ (Q *ℤ q)) = sym (mul-assoc K d q) ∙ ap (λ (z : ℤ). z *ℤ q) second ∙ neg-mul (D *ℤ Q) q ∙ ap neg_ℤ (mul-assoc D Q q) in
    gathered K D A B C a b c u v t (K *ℤ (e *ℤ p)) (K *ℤ (d *ℤ q)) (D *ℤ (P *ℤ p)) (D *ℤ (Q *ℤ q))
    (hk ∙ mul-sub K (e *ℤ p) (d *ℤ q)) (kd ∙ mul-add D (P *ℤ p) (Q *ℤ q)) ep dq
  where
    split : (m x y z : ℤ) → m *ℤ (x +ℤ y +ℤ z) ≡ m *ℤ x +ℤ m *ℤ y +ℤ m *ℤ z
    split m x y z = omega (arith, ints, mul-add m (x +ℤ y) z, mul-add m x y)

    one : (K D a A u : ℤ) → (K *ℤ a -ℤ D *ℤ A) *ℤ u ≡ K *ℤ (a *ℤ u) -ℤ D *ℤ (A *ℤ u)
    one K D a A u = omega (arith, ints, sub-mul (K *ℤ a) (D *ℤ A) u, mul-assoc K a u, mul-assoc D A u)

    gathered : (K D A B C a b c u v t ep dq pp qq : ℤ) → K *ℤ (a *ℤ u +ℤ b *ℤ v +ℤ c *ℤ t) ≡ ep -ℤ dq → D *ℤ (A *ℤ u +ℤ B *ℤ v +ℤ C *ℤ t) ≡ pp +ℤ qq → ep ≡ pp → dq ≡ neg_ℤ qq →
        (K *ℤ a -ℤ D *ℤ A) *ℤ u +ℤ (K *ℤ b -ℤ D *ℤ B) *ℤ v +ℤ (K *ℤ c -ℤ D *ℤ C) *ℤ t ≡ pos 0
    gathered K D A B C a b c u v t ep dq pp qq h k e f =
        omega (arith, ints, h, k, e, f, split K (a *ℤ u) (b *ℤ v) (c *ℤ t), split D (A *ℤ u) (B *ℤ v) (C *ℤ t), one K D a A u, one K D b B v, one K D c C t)

proportion : (p q : Vector) (o : Corners) (d e P Q A B C a b c : ℤ) → IsSpread o → P *ℤ d +ℤ Q *ℤ e ≡ pos 0 → AreWeights d e p q o a b c → IsCommon p q o P Q A B C →
    ((P +ℤ Q) *ℤ a ≡ (e -ℤ d) *ℤ A) × ((P +ℤ Q) *ℤ b ≡ (e -ℤ d) *ℤ B) × ((P +ℤ Q) *ℤ c ≡ (e -ℤ d) *ℤ C)
proportion p q o d e P Q A B C a b c spread level w h =
    let K = P +ℤ Q in
    let D = e -ℤ d in
    let is =
    spread.first (K *ℤ a -ℤ D *ℤ A) (K *ℤ b -ℤ D *ℤ B) (K *ℤ c -ℤ D *ℤ C)
    (sums K D A B C a b c h.whole w.whole)
    (proportion_axis d e P Q A B C a b c p.x q.x o.0.x o.1.x o.2.x level w.x h.x)
    (proportion_axis d e P Q A B C a b c p.y q.y o.0.y o.1.y o.2.y level w.y h.y)
    (proportion_axis d e P Q A B C a b c p.z q.z o.0.z o.1.z o.2.z level w.z h.z) in
    (omega (arith, ints, is.0), omega (arith, ints, is.1), omega (arith, ints, is.2))
  where
    split : (m x y z : ℤ) → m *ℤ x +ℤ m *ℤ y +ℤ m *ℤ z ≡ m *ℤ (x +ℤ y +ℤ z)
    split m x y z = omega (arith, ints, mul-add m (x +ℤ y) z, mul-add m x y)

    sums : (K D A B C a b c : ℤ) → A +ℤ B +ℤ C ≡ K → a +ℤ b +ℤ c ≡ D → (K *ℤ a -ℤ D *ℤ A) +ℤ (K *ℤ b -ℤ D *ℤ B) +ℤ (K *ℤ c -ℤ D *ℤ C) ≡ pos 0
    sums K D A B C a b c h k = omega (arith, ints, split K a b c, split D A B C, ap (λ (z : ℤ). K *ℤ z) k, ap (λ (z : ℤ). D *ℤ z) h, *ℤ_comm K D)

-- the sign of a number in proportion
pub weak_of : (K D A a : ℤ) → pos 0 <ℤ K → pos 0 ≤ℤ A → K *ℤ a ≡ D *ℤ A → (pos 0 <ℤ D → pos 0 ≤ℤ a) × (D <ℤ pos 0 → a ≤ℤ pos 0)
weak_of K D A a hK hA e = (
  λ hD. by_sign a (λ l. let m = pos_mul K (neg_ℤ a) hK (omega (arith, ints, l)) in let n = nonneg_mul D A (omega (arith, ints, hD)) hA in absurd
      (omega (arith, ints, m, n, e, mul-neg K a)))
      (λ l. omega (arith, ints, l)) (λ l. omega (arith, ints, l)),
  λ hD. by_sign a (λ l. omega (arith, ints, l)) (λ l. omega (arith, ints, l))
      (λ l. let m = pos_mul K a hK l in let n = nonneg_mul (neg_ℤ D) A (omega (arith, ints, hD)) hA in absurd (omega (arith, ints, m, n, e, neg-mul D A))),
)

-- an edge with ends on two sides that has a point in the triangle goes through it
pub tells_through : (p q : Vector) (o : Corners) (P Q A B C : ℤ) → IsSpread o → IsCommon p q o P Q A B C → Opposite (volume p o.0 o.1 o.2) (volume q o.0 o.1 o.2) →
    goes_through p q o ≡ true
tells_through p q o P Q A B C spread h opposite =
    let d = volume p o.0 o.1 o.2 in
    let e = volume q o.0 o.1 o.2 in
    let is = proportion p q o d e P Q A B C _ _ _ spread (levels p q o P Q A B C h) (weights p q o) h in
    let wa = weak_of (P +ℤ Q) (e -ℤ d) A _ h.some h.first is.0 in
    let wb = weak_of (P +ℤ Q) (e -ℤ d) B _ h.some h.second is.1 in
    let wc = weak_of (P +ℤ Q) (e -ℤ d) C _ h.some h.third is.2 in
    and (are_opposite d e) _ (opposite_yes d e opposite) (by d e (volume p q o.2 o.1) (volume p q o.0 o.2) (volume p q o.1 o.0) opposite wa wb wc)
  where
    by : (d e a b c : ℤ) → Opposite d e → (pos 0 <ℤ (e -ℤ d) → pos 0 ≤ℤ a) × ((e -ℤ d) <ℤ pos 0 → a ≤ℤ pos 0) →
        (pos 0 <ℤ (e -ℤ d) → pos 0 ≤ℤ b) × ((e -ℤ d) <ℤ pos 0 → b ≤ℤ pos 0) →
        (pos 0 <ℤ (e -ℤ d) → pos 0 ≤ℤ c) × ((e -ℤ d) <ℤ pos 0 → c ≤ℤ pos 0) → agree a b c ≡ true
    by d e a b c (rising h k) wa wb wc = let l : pos 0 <ℤ (e -ℤ d) = omega (arith, ints, h, k) in agree_yes true a b c (record { first = wa.0 l; second = wb.0 l; third = wc.0 l })
    by d e a b c (falling h k) wa wb wc = let l : (e -ℤ d) <ℤ pos 0 = omega (arith, ints, h, k) in agree_yes false a b c
        (record { first = wa.1 l; second = wb.1 l; third = wc.1 l })

-- a point of an edge that goes through
pub record HasPoint (p q : Vector) (o : Corners) : Type 0 where
  pub P : ℤ
  pub Q : ℤ
  pub A : ℤ
  pub B : ℤ
  pub C : ℤ
  pub common : IsCommon p q o P Q A B C
  pub inner : (pos 0 <ℤ P) × (pos 0 <ℤ Q)

turned_three : (a b c u v t e d p q : ℤ) → a *ℤ u +ℤ b *ℤ v +ℤ c *ℤ t ≡ e *ℤ p -ℤ d *ℤ q → neg_ℤ a *ℤ u +ℤ neg_ℤ b *ℤ v +ℤ neg_ℤ c *ℤ t ≡ neg_ℤ e *ℤ p +ℤ d *ℤ q
turned_three a b c u v t e d p q h = omega (arith, ints, h, neg-mul a u, neg-mul b v, neg-mul c t, neg-mul e p)

kept_three : (a b c u v t e d p q : ℤ) → a *ℤ u +ℤ b *ℤ v +ℤ c *ℤ t ≡ e *ℤ p -ℤ d *ℤ q → a *ℤ u +ℤ b *ℤ v +ℤ c *ℤ t ≡ e *ℤ p +ℤ neg_ℤ d *ℤ q
kept_three a b c u v t e d p q h = omega (arith, ints, h, neg-mul d q)

pub through_point : (p q : Vector) (o : Corners) → goes_through p q o ≡ true → (Opposite (volume p o.0 o.1 o.2) (volume q o.0 o.1 o.2)) × HasPoint p q o
through_point p q o e =
    let d = volume p o.0 o.1 o.2 in
    let f = volume q o.0 o.1 o.2 in
    let h = both (are_opposite d f) _ e in
    let opposite = yes_opposite d f h.0 in
    let signs = yes_agree _ _ _ h.1 in
    (opposite, by d f _ _ _ signs.0 opposite signs.1 (weights p q o))
  where
    by : (d f a b c : ℤ) (s : Bool) → Opposite d f → HaveWeak s a b c → AreWeights d f p q o a b c → HasPoint p q o
    by d f a b c true (rising h k) w is = record {
      P = f;
      Q = neg_ℤ d;
      A = a;
      B = b;
      C = c;
      common = record {
        start = omega (arith, ints, k);
        end = omega (arith, ints, h);
        first = w.first;
        second = w.second;
        third = w.third;
        some = omega (arith, ints, h, k);
        whole = omega (arith, ints, is.whole);
        x = kept_three a b c _ _ _ f d _ _ is.x;
        y = kept_three a b c _ _ _ f d _ _ is.y;
        z = kept_three a b c _ _ _ f d _ _ is.z;
      };
      inner = (k, omega (arith, ints, h));
    }
    by d f a b c false (falling h k) w is = record {
      P = neg_ℤ f;
      Q = d;
      A = neg_ℤ a;
      B = neg_ℤ b;
      C = neg_ℤ c;
      common = record {
        start = omega (arith, ints, k);
        end = omega (arith, ints, h);
        first = omega (arith, ints, w.first);
        second = omega (arith, ints, w.second);
        third = omega (arith, ints, w.third);
        some = omega (arith, ints, h, k);
        whole = omega (arith, ints, is.whole);
        x = turned_three a b c _ _ _ f d _ _ is.x;
        y = turned_three a b c _ _ _ f d _ _ is.y;
        z = turned_three a b c _ _ _ f d _ _ is.z;
      };
      inner = (omega (arith, ints, k), h);
    }
    by d f a b c true (falling h k) w is = absurd (omega (arith, ints, h, k, w.first, w.second, w.third, is.whole))
    by d f a b c false (rising h k) w is = absurd (omega (arith, ints, h, k, w.first, w.second, w.third, is.whole))
