-- Triangles beside another: their corners lie on one side of its plane, but for those that are corners of it. What such two have in common lies in
-- the hull of what they share, so they do not cut one another.
use Rattle.std.specs.Prelude.{◌≡◌, ℤ, pos, neg_ℤ, ◌+ℤ◌, ◌-ℤ◌, ◌*ℤ◌, ◌≤ℤ◌, ◌<ℤ◌, ◌⊎◌, Bool, true, false, ◌&&◌, ◌||◌, int_lt}
use Rattle.std.proofs.Common.{arith, refl, sym, ap, subst, inl, inr, ◌∙◌}
use Rattle.std.proofs.lemmas.Int.{ints}
use Rattle.std.proofs.Math.IntN.{*ℤ_comm}
use Rattle.chain_laws.specs.Products.{add-mul, mul-add, mul-sub, mul-neg, pos_mul}
use Rattle.plane_laws.specs.Areas.{exchanged}
use Rattle.plane_laws.specs.Decisions.{Vector, face_normal}
use Rattle.plane_laws.specs.Moved.{nonneg_mul, times_zero}
use Rattle.plane_laws.specs.Signs.{Signed, Weak}
use Rattle.solid_terms.specs.Solids.{volume}
use Rattle.inspection_terms.specs.Cuts.{AreOnSamePlaces, EdgeMeets, HasCorner, IsInShared, IsInTriangle, IsMean}
use Rattle.inspection_terms.specs.Inspected.{has_corner}
use Rattle.inspection_terms.specs.Triangles.{Corners, is_flat}
use Rattle.inspection_laws.specs.Signs.{are_cutting, lies_beside, lies_over, lies_under}
use Rattle.inspection_laws.proofs.Commons.{axis, corner_volume, times_sum}
use Rattle.inspection_laws.proofs.Cutting.{cutting_holds}
use Rattle.inspection_laws.proofs.Numbers.{above_some, by_sign, zero_times}
use Rattle.inspection_laws.proofs.Sharing.{first_apart, second_apart, third_apart}
use Rattle.inspection_laws.proofs.Tests.{both, either, no, yes_corner}

-- how far the corners of a triangle are over another, on one axis, at a common point
level_axis : (n A B C A' B' C' u v w u' v' w' : ℤ) → A' +ℤ B' +ℤ C' ≡ A +ℤ B +ℤ C → A' *ℤ u' +ℤ B' *ℤ v' +ℤ C' *ℤ w' ≡ A *ℤ u +ℤ B *ℤ v +ℤ C *ℤ w →
    A *ℤ (n *ℤ (u' -ℤ u)) +ℤ B *ℤ (n *ℤ (u' -ℤ v)) +ℤ C *ℤ (n *ℤ (u' -ℤ w)) ≡ B' *ℤ (n *ℤ (u' -ℤ v')) +ℤ C' *ℤ (n *ℤ (u' -ℤ w'))
level_axis n A B C A' B' C' u v w u' v' w' s e =
    let d : (A' +ℤ B' +ℤ C') *ℤ u' ≡ (A +ℤ B +ℤ C) *ℤ u' = ap (λ (z : ℤ). z *ℤ u') s in
    let inner : A *ℤ (u' -ℤ u) +ℤ B *ℤ (u' -ℤ v) +ℤ C *ℤ (u' -ℤ w) ≡ B' *ℤ (u' -ℤ v') +ℤ C' *ℤ (u' -ℤ w') =
    omega (
      arith,
      ints,
      e,
      d,
      add-mul (A' +ℤ B') C' u',
      add-mul A' B' u',
      add-mul (A +ℤ B) C u',
      add-mul A B u',
      mul-sub A u' u,
      mul-sub B u' v,
      mul-sub C u' w,
      mul-sub B' u' v',
      mul-sub C' u' w',
    ) in
    omega (
      arith,
      ints,
      exchanged A n (u' -ℤ u),
      exchanged B n (u' -ℤ v),
      exchanged C n (u' -ℤ w),
      exchanged B' n (u' -ℤ v'),
      exchanged C' n (u' -ℤ w'),
      mul-add n (A *ℤ (u' -ℤ u) +ℤ B *ℤ (u' -ℤ v)) (C *ℤ (u' -ℤ w)),
      mul-add n (A *ℤ (u' -ℤ u)) (B *ℤ (u' -ℤ v)),
      mul-add n (B' *ℤ (u' -ℤ v')) (C' *ℤ (u' -ℤ w')),
      ap (λ (z : ℤ). n *ℤ z) inner,
    )

-- with the weights of a common point they come to nothing
levels : (k : ℤ) (x : Vector) (t o : Corners) (a b c a' b' c' : ℤ) → pos 0 <ℤ k → IsMean k x t a b c → IsMean k x o a' b' c' →
    ((a' +ℤ b' +ℤ c') *ℤ a) *ℤ volume t.0 o.0 o.1 o.2 +ℤ ((a' +ℤ b' +ℤ c') *ℤ b) *ℤ volume t.1 o.0 o.1 o.2 +ℤ ((a' +ℤ b' +ℤ c') *ℤ c) *ℤ volume t.2 o.0 o.1 o.2 ≡ pos 0
levels k x t o a b c a' b' c' above m m' =
    let n = face_normal o.0 o.1 o.2 in
    let s = a +ℤ b +ℤ c in
    let s' = a' +ℤ b' +ℤ c' in
    let some = above_some k above in
    let whole : s *ℤ a' +ℤ s *ℤ b' +ℤ s *ℤ c' ≡ s' *ℤ a +ℤ s' *ℤ b +ℤ s' *ℤ c = times_sum s a' b' c' ∙ *ℤ_comm s s' ∙ sym (times_sum s' a b c) in
    let ex = level_axis n.x (s' *ℤ a) (s' *ℤ b) (s' *ℤ c) (s *ℤ a') (s *ℤ b') (s *ℤ c') t.0.x t.1.x t.2.x o.0.x o.1.x o.2.x whole
    (axis k s s' x.x a b c t.0.x t.1.x t.2.x a' b' c' o.0.x o.1.x o.2.x some m.on_x m'.on_x) in
    let ey = level_axis n.y (s' *ℤ a) (s' *ℤ b) (s' *ℤ c) (s *ℤ a') (s *ℤ b') (s *ℤ c') t.0.y t.1.y t.2.y o.0.y o.1.y o.2.y whole
    (axis k s s' x.y a b c t.0.y t.1.y t.2.y a' b' c' o.0.y o.1.y o.2.y some m.on_y m'.on_y) in
    let ez = level_axis n.z (s' *ℤ a) (s' *ℤ b) (s' *ℤ c) (s *ℤ a') (s *ℤ b') (s *ℤ c') t.0.z t.1.z t.2.z o.0.z o.1.z o.2.z whole
    (axis k s s' x.z a b c t.0.z t.1.z t.2.z a' b' c' o.0.z o.1.z o.2.z some m.on_z m'.on_z) in
    by (s' *ℤ a) (s' *ℤ b) (s' *ℤ c) (s *ℤ b') (s *ℤ c')
    (n.x *ℤ (o.0.x -ℤ t.0.x)) (n.y *ℤ (o.0.y -ℤ t.0.y)) (n.z *ℤ (o.0.z -ℤ t.0.z))
    (n.x *ℤ (o.0.x -ℤ t.1.x)) (n.y *ℤ (o.0.y -ℤ t.1.y)) (n.z *ℤ (o.0.z -ℤ t.1.z))
    (n.x *ℤ (o.0.x -ℤ t.2.x)) (n.y *ℤ (o.0.y -ℤ t.2.y)) (n.z *ℤ (o.0.z -ℤ t.2.z))
    (n.x *ℤ (o.0.x -ℤ o.1.x)) (n.y *ℤ (o.0.y -ℤ o.1.y)) (n.z *ℤ (o.0.z -ℤ o.1.z))
    (n.x *ℤ (o.0.x -ℤ o.2.x)) (n.y *ℤ (o.0.y -ℤ o.2.y)) (n.z *ℤ (o.0.z -ℤ o.2.z))
    ex ey ez (corner_volume o o.1 (inr (inl refl))) (corner_volume o o.2 (inr (inr refl)))
  where
    split : (m x y z : ℤ) → m *ℤ (x +ℤ y +ℤ z) ≡ m *ℤ x +ℤ m *ℤ y +ℤ m *ℤ z
    split m x y z = omega (arith, ints, mul-add m (x +ℤ y) z, mul-add m x y)

    by : (A B C D E px py pz qx qy qz rx ry rz vx vy vz wx wy wz : ℤ) → A *ℤ px +ℤ B *ℤ qx +ℤ C *ℤ rx ≡ D *ℤ vx +ℤ E *ℤ wx →
        A *ℤ py +ℤ B *ℤ qy +ℤ C *ℤ ry ≡ D *ℤ vy +ℤ E *ℤ wy → A *ℤ pz +ℤ B *ℤ qz +ℤ C *ℤ rz ≡ D *ℤ vz +ℤ E *ℤ wz →
        vx +ℤ vy +ℤ vz ≡ pos 0 → wx +ℤ wy +ℤ wz ≡ pos 0 → A *ℤ (px +ℤ py +ℤ pz) +ℤ B *ℤ (qx +ℤ qy +ℤ qz) +ℤ C *ℤ (rx +ℤ ry +ℤ rz) ≡ pos 0
    by A B C D E px py pz qx qy qz rx ry rz vx vy vz wx wy wz ex ey ez hv hw =
        omega (
          arith,
          ints,
          ex,
          ey,
          ez,
          split A px py pz,
          split B qx qy qz,
          split C rx ry rz,
          split D vx vy vz,
          split E wx wy wz,
          ap (λ (z : ℤ). D *ℤ z) hv,
          ap (λ (z : ℤ). E *ℤ z) hw,
          times_zero D,
          times_zero E,
        )

-- a number of a sign, or 0
weak_of : (s : Bool) (z : ℤ) → Signed s z → Weak s z
weak_of true z h = omega (arith, ints, h)
weak_of false z h = omega (arith, ints, h)

weak_zero : (s : Bool) (z : ℤ) → z ≡ pos 0 → Weak s z
weak_zero true z e = omega (arith, ints, e)
weak_zero false z e = omega (arith, ints, e)

zero_not : (s : Bool) (z : ℤ) → z ≡ pos 0 → Signed s z → ⊥
zero_not true z e h = omega (arith, ints, e, h)
zero_not false z e h = omega (arith, ints, e, h)

-- of numbers of one sign that come to nothing with weights, one that is not 0 has no weight
weightless : (s : Bool) (A B C f g h : ℤ) → pos 0 <ℤ A → pos 0 ≤ℤ B → pos 0 ≤ℤ C → Signed s f → Weak s g → Weak s h → A *ℤ f +ℤ B *ℤ g +ℤ C *ℤ h ≡ pos 0 → ⊥
weightless true A B C f g h hA hB hC hf hg hh e = omega (arith, ints, e, pos_mul A f hA hf, nonneg_mul B g hB hg, nonneg_mul C h hC hh)
weightless false A B C f g h hA hB hC hf hg hh e =
    omega (
      arith,
      ints,
      e,
      pos_mul A (neg_ℤ f) hA (omega (arith, ints, hf)),
      nonneg_mul B (neg_ℤ g) hB (omega (arith, ints, hg)),
      nonneg_mul C (neg_ℤ h) hC (omega (arith, ints, hh)),
      mul-neg A f,
      mul-neg B g,
      mul-neg C h,
    )

-- some corner of the first lies on one side of the second, and each that does not is a corner of it
pub record LiesOff (s : Bool) (t o : Corners) : Type 0 where
  pub some : Signed s (volume t.0 o.0 o.1 o.2) ⊎ (Signed s (volume t.1 o.0 o.1 o.2) ⊎ Signed s (volume t.2 o.0 o.1 o.2))
  pub first : Signed s (volume t.0 o.0 o.1 o.2) ⊎ HasCorner o t.0
  pub second : Signed s (volume t.1 o.0 o.1 o.2) ⊎ HasCorner o t.1
  pub third : Signed s (volume t.2 o.0 o.1 o.2) ⊎ HasCorner o t.2

weak_corner : (s : Bool) (o : Corners) (p : Vector) → Signed s (volume p o.0 o.1 o.2) ⊎ HasCorner o p → Weak s (volume p o.0 o.1 o.2)
weak_corner s o p (inl h) = weak_of s (volume p o.0 o.1 o.2) h
weak_corner s o p (inr h) = weak_zero s (volume p o.0 o.1 o.2) (corner_volume o p h)

-- a common point lies in the hull of what is shared
module _ (s : Bool) (t o : Corners) (off : LiesOff s t o) where
  beside_shared : (k : ℤ) (x : Vector) → pos 0 <ℤ k → IsInTriangle k x t → IsInTriangle k x o → IsInShared k x t o
  beside_shared k x above m m' =
      let f = volume t.0 o.0 o.1 o.2 in
      let g = volume t.1 o.0 o.1 o.2 in
      let h = volume t.2 o.0 o.1 o.2 in
      let w = m'.a +ℤ m'.b +ℤ m'.c in
      let e = levels k x t o m.a m.b m.c m'.a m'.b m'.c above m.mean m'.mean in
      let wf = weak_corner s o t.0 off.first in
      let wg = weak_corner s o t.1 off.second in
      let wh = weak_corner s o t.2 off.third in
      let pa = nonneg_mul w m.a (low w m'.mean.some) m.mean.first in
      let pb = nonneg_mul w m.b (low w m'.mean.some) m.mean.second in
      let pc = nonneg_mul w m.c (low w m'.mean.some) m.mean.third in
      record {
        a = m.a;
        b = m.b;
        c = m.c;
        mean = m.mean;
        first = λ l. by o t.0 off.first (λ d. weightless s (w *ℤ m.a) (w *ℤ m.b) (w *ℤ m.c) f g h (pos_mul w m.a m'.mean.some l) pb pc d wg wh e);
        second = λ l. by o t.1 off.second
            (λ d. weightless s (w *ℤ m.b) (w *ℤ m.a) (w *ℤ m.c) g f h (pos_mul w m.b m'.mean.some l)
            pa pc d wf wh (turned ((w *ℤ m.a) *ℤ f) ((w *ℤ m.b) *ℤ g) ((w *ℤ m.c) *ℤ h) e));
        third = λ l. by o t.2 off.third
            (λ d. weightless s (w *ℤ m.c) (w *ℤ m.a) (w *ℤ m.b) h f g (pos_mul w m.c m'.mean.some l) pa pb d wf wg (last ((w *ℤ m.a) *ℤ f) ((w *ℤ m.b) *ℤ g) ((w *ℤ m.c) *ℤ h) e));
      }
    where
      low : (z : ℤ) → pos 0 <ℤ z → pos 0 ≤ℤ z
      low z l = omega (arith, ints, l)

      by : (o : Corners) (p : Vector) → Signed s (volume p o.0 o.1 o.2) ⊎ HasCorner o p → (Signed s (volume p o.0 o.1 o.2) → ⊥) → HasCorner o p
      by o p (inl d) f = absurd (f d)
      by o p (inr c) f = c

      turned : (x y z : ℤ) → x +ℤ y +ℤ z ≡ pos 0 → y +ℤ x +ℤ z ≡ pos 0
      turned x y z e = omega (arith, ints, e)

      last : (x y z : ℤ) → x +ℤ y +ℤ z ≡ pos 0 → z +ℤ x +ℤ y ≡ pos 0
      last x y z e = omega (arith, ints, e)

  -- they do not lie on the same places
  not_same : AreOnSamePlaces t o → ⊥
  not_same h = by off.some where
    by : Signed s (volume t.0 o.0 o.1 o.2) ⊎ (Signed s (volume t.1 o.0 o.1 o.2) ⊎ Signed s (volume t.2 o.0 o.1 o.2)) → ⊥
    by (inl d) = zero_not s (volume t.0 o.0 o.1 o.2) (corner_volume o t.0 h.a) d
    by (inr (inl d)) = zero_not s (volume t.1 o.0 o.1 o.2) (corner_volume o t.1 h.b) d
    by (inr (inr d)) = zero_not s (volume t.2 o.0 o.1 o.2) (corner_volume o t.2 h.c) d

-- corners of a triangle that are shared, with weights: what they come to
record IsPart (t o : Corners) (w x y z : ℤ) : Type 0 where
  a : ℤ
  b : ℤ
  c : ℤ
  first : pos 0 ≤ℤ a
  second : pos 0 ≤ℤ b
  third : pos 0 ≤ℤ c
  whole : a +ℤ b +ℤ c ≡ w
  on_x : a *ℤ o.0.x +ℤ b *ℤ o.1.x +ℤ c *ℤ o.2.x ≡ x
  on_y : a *ℤ o.0.y +ℤ b *ℤ o.1.y +ℤ c *ℤ o.2.y ≡ y
  on_z : a *ℤ o.0.z +ℤ b *ℤ o.1.z +ℤ c *ℤ o.2.z ≡ z
  has_a : pos 0 <ℤ a → HasCorner t o.0
  has_b : pos 0 <ℤ b → HasCorner t o.1
  has_c : pos 0 <ℤ c → HasCorner t o.2

nothing : (t o : Corners) → IsPart t o (pos 0) (pos 0) (pos 0) (pos 0)
nothing t o = record {
  a = pos 0;
  b = pos 0;
  c = pos 0;
  first = omega (arith, ints);
  second = omega (arith, ints);
  third = omega (arith, ints);
  whole = omega (arith, ints);
  on_x = omega (arith, ints, zero_times o.0.x, zero_times o.1.x, zero_times o.2.x);
  on_y = omega (arith, ints, zero_times o.0.y, zero_times o.1.y, zero_times o.2.y);
  on_z = omega (arith, ints, zero_times o.0.z, zero_times o.1.z, zero_times o.2.z);
  has_a = λ l. absurd (omega (arith, ints, l));
  has_b = λ l. absurd (omega (arith, ints, l));
  has_c = λ l. absurd (omega (arith, ints, l));
}

-- one corner more, with a weight
more_first : (a b c d u v w x p : ℤ) → a *ℤ u +ℤ b *ℤ v +ℤ c *ℤ w ≡ x → p ≡ u → (a +ℤ d) *ℤ u +ℤ b *ℤ v +ℤ c *ℤ w ≡ x +ℤ d *ℤ p
more_first a b c d u v w x p e f = omega (arith, ints, e, add-mul a d u, ap (λ (z : ℤ). d *ℤ z) f)

more_second : (a b c d u v w x p : ℤ) → a *ℤ u +ℤ b *ℤ v +ℤ c *ℤ w ≡ x → p ≡ v → a *ℤ u +ℤ (b +ℤ d) *ℤ v +ℤ c *ℤ w ≡ x +ℤ d *ℤ p
more_second a b c d u v w x p e f = omega (arith, ints, e, add-mul b d v, ap (λ (z : ℤ). d *ℤ z) f)

more_third : (a b c d u v w x p : ℤ) → a *ℤ u +ℤ b *ℤ v +ℤ c *ℤ w ≡ x → p ≡ w → a *ℤ u +ℤ b *ℤ v +ℤ (c +ℤ d) *ℤ w ≡ x +ℤ d *ℤ p
more_third a b c d u v w x p e f = omega (arith, ints, e, add-mul c d w, ap (λ (z : ℤ). d *ℤ z) f)

module _ (t o : Corners) (w x y z : ℤ) (part : IsPart t o w x y z) (d : ℤ) (low : pos 0 ≤ℤ d) (p : Vector) (of_t : HasCorner t p) where
  with_corner : HasCorner o p → IsPart t o (w +ℤ d) (x +ℤ d *ℤ p.x) (y +ℤ d *ℤ p.y) (z +ℤ d *ℤ p.z)
  with_corner (inl e) = record {
    a = part.a +ℤ d;
    b = part.b;
    c = part.c;
    first = omega (arith, ints, part.first, low);
    second = part.second;
    third = part.third;
    whole = omega (arith, ints, part.whole);
    on_x = more_first part.a part.b part.c d o.0.x o.1.x o.2.x x p.x part.on_x (ap (λ (v : Vector). v.x) e);
    on_y = more_first part.a part.b part.c d o.0.y o.1.y o.2.y y p.y part.on_y (ap (λ (v : Vector). v.y) e);
    on_z = more_first part.a part.b part.c d o.0.z o.1.z o.2.z z p.z part.on_z (ap (λ (v : Vector). v.z) e);
    has_a = λ l. subst (HasCorner t) e of_t;
    has_b = part.has_b;
    has_c = part.has_c;
  }
  with_corner (inr (inl e)) = record {
    a = part.a;
    b = part.b +ℤ d;
    c = part.c;
    first = part.first;
    second = omega (arith, ints, part.second, low);
    third = part.third;
    whole = omega (arith, ints, part.whole);
    on_x = more_second part.a part.b part.c d o.0.x o.1.x o.2.x x p.x part.on_x (ap (λ (v : Vector). v.x) e);
    on_y = more_second part.a part.b part.c d o.0.y o.1.y o.2.y y p.y part.on_y (ap (λ (v : Vector). v.y) e);
    on_z = more_second part.a part.b part.c d o.0.z o.1.z o.2.z z p.z part.on_z (ap (λ (v : Vector). v.z) e);
    has_a = part.has_a;
    has_b = λ l. subst (HasCorner t) e of_t;
    has_c = part.has_c;
  }
  with_corner (inr (inr e)) = record {
    a = part.a;
    b = part.b;
    c = part.c +ℤ d;
    first = part.first;
    second = part.second;
    third = omega (arith, ints, part.third, low);
    whole = omega (arith, ints, part.whole);
    on_x = more_third part.a part.b part.c d o.0.x o.1.x o.2.x x p.x part.on_x (ap (λ (v : Vector). v.x) e);
    on_y = more_third part.a part.b part.c d o.0.y o.1.y o.2.y y p.y part.on_y (ap (λ (v : Vector). v.y) e);
    on_z = more_third part.a part.b part.c d o.0.z o.1.z o.2.z z p.z part.on_z (ap (λ (v : Vector). v.z) e);
    has_a = part.has_a;
    has_b = part.has_b;
    has_c = λ l. subst (HasCorner t) e of_t;
  }

  without_weight : d ≡ pos 0 → IsPart t o (w +ℤ d) (x +ℤ d *ℤ p.x) (y +ℤ d *ℤ p.y) (z +ℤ d *ℤ p.z)
  without_weight e = record {
    a = part.a;
    b = part.b;
    c = part.c;
    first = part.first;
    second = part.second;
    third = part.third;
    whole = omega (arith, ints, part.whole, e);
    on_x = part.on_x ∙ gone x p.x;
    on_y = part.on_y ∙ gone y p.y;
    on_z = part.on_z ∙ gone z p.z;
    has_a = part.has_a;
    has_b = part.has_b;
    has_c = part.has_c;
  } where
    gone : (u v : ℤ) → u ≡ u +ℤ d *ℤ v
    gone u v = omega (arith, ints, ap (λ (z : ℤ). z *ℤ v) e, zero_times v)

  with_weight : (pos 0 <ℤ d → HasCorner o p) → IsPart t o (w +ℤ d) (x +ℤ d *ℤ p.x) (y +ℤ d *ℤ p.y) (z +ℤ d *ℤ p.z)
  with_weight h = by_sign d (λ l. absurd (omega (arith, ints, l, low))) without_weight (λ l. with_corner (h l))

-- the hull of what is shared, seen from the other triangle
exchanged_shared : (k : ℤ) (x : Vector) (t o : Corners) → IsInShared k x t o → IsInShared k x o t
exchanged_shared k x t o h =
    let p = with_weight t o (pos 0) (pos 0) (pos 0) (pos 0) (nothing t o) h.a h.mean.first t.0 (inl refl) h.first in
    let q = with_weight t o _ _ _ _ p h.b h.mean.second t.1 (inr (inl refl)) h.second in
    let r = with_weight t o _ _ _ _ q h.c h.mean.third t.2 (inr (inr refl)) h.third in
    record {
      a = r.a;
      b = r.b;
      c = r.c;
      mean = record {
        first = r.first;
        second = r.second;
        third = r.third;
        some = omega (arith, ints, r.whole, h.mean.some);
        on_x = mean_on (r.a +ℤ r.b +ℤ r.c) h.a h.b h.c x.x t.0.x t.1.x t.2.x _ r.whole h.mean.on_x r.on_x;
        on_y = mean_on (r.a +ℤ r.b +ℤ r.c) h.a h.b h.c x.y t.0.y t.1.y t.2.y _ r.whole h.mean.on_y r.on_y;
        on_z = mean_on (r.a +ℤ r.b +ℤ r.c) h.a h.b h.c x.z t.0.z t.1.z t.2.z _ r.whole h.mean.on_z r.on_z;
      };
      first = r.has_a;
      second = r.has_b;
      third = r.has_c;
    }
  where
    mean_on : (s a b c x u v w y : ℤ) → s ≡ pos 0 +ℤ a +ℤ b +ℤ c → (a +ℤ b +ℤ c) *ℤ x ≡ k *ℤ (a *ℤ u +ℤ b *ℤ v +ℤ c *ℤ w) →
        y ≡ pos 0 +ℤ a *ℤ u +ℤ b *ℤ v +ℤ c *ℤ w → s *ℤ x ≡ k *ℤ y
    mean_on s a b c x u v w y e f g =
        let l : s ≡ a +ℤ b +ℤ c = omega (arith, ints, e) in
        let r : a *ℤ u +ℤ b *ℤ v +ℤ c *ℤ w ≡ y = omega (arith, ints, g) in
        ap (λ (z : ℤ). z *ℤ x) l ∙ f ∙ ap (λ (z : ℤ). k *ℤ z) r

-- so triangles beside another do not cut it
off_apart : (s : Bool) (t o : Corners) → LiesOff s t o → AreOnSamePlaces t o ⊎ (EdgeMeets t o ⊎ EdgeMeets o t) → ⊥
off_apart s t o off (inl h) = not_same s t o off h
off_apart s t o off (inr (inl h)) =
    h.beyond (beside_shared s t o off h.k h.x h.above (record { a = h.on_edge.a; b = h.on_edge.b; c = h.on_edge.c; mean = h.on_edge.mean }) h.inside)
off_apart s t o off (inr (inr h)) =
    h.beyond (exchanged_shared h.k h.x t o
    (beside_shared s t o off h.k h.x h.above h.inside (record { a = h.on_edge.a; b = h.on_edge.b; c = h.on_edge.c; mean = h.on_edge.mean })))

-- the tests
above_is : (z : ℤ) → int_lt (pos 0) z ≡ true → pos 0 <ℤ z
above_is z e = grind (arith, ints)

below_is : (z : ℤ) → int_lt z (pos 0) ≡ true → z <ℤ pos 0
below_is z e = grind (arith, ints)

off_of : (s : Bool) (t o : Corners) (f g h : Bool) → (f ≡ true → Signed s (volume t.0 o.0 o.1 o.2)) → (g ≡ true → Signed s (volume t.1 o.0 o.1 o.2)) →
    (h ≡ true → Signed s (volume t.2 o.0 o.1 o.2)) →
    ((f || g || h) && (f || has_corner o t.0) && (g || has_corner o t.1) && (h || has_corner o t.2)) ≡ true → LiesOff s t o
off_of s t o f g h uf ug uh e =
    let x = both ((f || g || h) && (f || has_corner o t.0) && (g || has_corner o t.1)) (h || has_corner o t.2) e in
    let y = both ((f || g || h) && (f || has_corner o t.0)) (g || has_corner o t.1) x.0 in
    let z = both (f || g || h) (f || has_corner o t.0) y.0 in
    record {
      some = three (either (f || g) h z.0);
      first = corner t.0 f uf (either f (has_corner o t.0) z.1);
      second = corner t.1 g ug (either g (has_corner o t.1) y.1);
      third = corner t.2 h uh (either h (has_corner o t.2) x.1);
    }
  where
    two : (f ≡ true) ⊎ (g ≡ true) → Signed s (volume t.0 o.0 o.1 o.2) ⊎ (Signed s (volume t.1 o.0 o.1 o.2) ⊎ Signed s (volume t.2 o.0 o.1 o.2))
    two (inl q) = inl (uf q)
    two (inr q) = inr (inl (ug q))

    three : ((f || g) ≡ true) ⊎ (h ≡ true) → Signed s (volume t.0 o.0 o.1 o.2) ⊎ (Signed s (volume t.1 o.0 o.1 o.2) ⊎ Signed s (volume t.2 o.0 o.1 o.2))
    three (inl q) = two (either f g q)
    three (inr q) = inr (inr (uh q))

    corner : (p : Vector) (b : Bool) → (b ≡ true → Signed s (volume p o.0 o.1 o.2)) → (b ≡ true) ⊎ (has_corner o p ≡ true) → Signed s (volume p o.0 o.1 o.2) ⊎ HasCorner o p
    corner p b u (inl q) = inl (u q)
    corner p b u (inr q) = inr (yes_corner o p q)

beside_apart_of : (t o : Corners) → lies_beside t o ≡ true → AreOnSamePlaces t o ⊎ (EdgeMeets t o ⊎ EdgeMeets o t) → ⊥
beside_apart_of t o e common = by (either (lies_over t o) (lies_under t o) e) where
  by : (lies_over t o ≡ true) ⊎ (lies_under t o ≡ true) → ⊥
  by (inl h) =
      off_apart true t o
      (off_of true t o _ _ _ (above_is (volume t.0 o.0 o.1 o.2)) (above_is (volume t.1 o.0 o.1 o.2)) (above_is (volume t.2 o.0 o.1 o.2)) h)
      common
  by (inr h) =
      off_apart false t o
      (off_of false t o _ _ _ (below_is (volume t.0 o.0 o.1 o.2)) (below_is (volume t.1 o.0 o.1 o.2)) (below_is (volume t.2 o.0 o.1 o.2)) h)
      common

-- one beside another does not cut it
pub beside_apart : (t o : Corners) → lies_beside t o ≡ true → are_cutting t o ≡ false
beside_apart t o e = no (are_cutting t o) (λ h. beside_apart_of t o e (cutting_holds t o h).common)

-- three places that differ, among three
pigeons : (a b c u v : Vector) → (a ≡ b → ⊥) → (b ≡ c → ⊥) → (c ≡ a → ⊥) → (a ≡ u) ⊎ (a ≡ v) → (b ≡ u) ⊎ (b ≡ v) → (c ≡ u) ⊎ (c ≡ v) → ⊥
pigeons a b c u v ab bc ca (inl e) (inl f) z = ab (e ∙ sym f)
pigeons a b c u v ab bc ca (inl e) (inr f) (inl g) = ca (g ∙ sym e)
pigeons a b c u v ab bc ca (inl e) (inr f) (inr g) = bc (f ∙ sym g)
pigeons a b c u v ab bc ca (inr e) (inr f) z = ab (e ∙ sym f)
pigeons a b c u v ab bc ca (inr e) (inl f) (inl g) = bc (f ∙ sym g)
pigeons a b c u v ab bc ca (inr e) (inl f) (inr g) = ca (g ∙ sym e)

among : (a b c p u v : Vector) → (a ≡ b → ⊥) → (b ≡ c → ⊥) → (c ≡ a → ⊥) →
    (a ≡ p) ⊎ ((a ≡ u) ⊎ (a ≡ v)) → (b ≡ p) ⊎ ((b ≡ u) ⊎ (b ≡ v)) → (c ≡ p) ⊎ ((c ≡ u) ⊎ (c ≡ v)) → (p ≡ a) ⊎ ((p ≡ b) ⊎ (p ≡ c))
among a b c p u v ab bc ca (inl e) y z = inl (sym e)
among a b c p u v ab bc ca (inr x) (inl e) z = inr (inl (sym e))
among a b c p u v ab bc ca (inr x) (inr y) (inl e) = inr (inr (sym e))
among a b c p u v ab bc ca (inr x) (inr y) (inr z) = absurd (pigeons a b c u v ab bc ca x y z)

second_first : {A B C : Type 0} → A ⊎ (B ⊎ C) → B ⊎ (A ⊎ C)
second_first (inl a) = inr (inl a)
second_first (inr (inl b)) = inl b
second_first (inr (inr c)) = inr (inr c)

third_first : {A B C : Type 0} → A ⊎ (B ⊎ C) → C ⊎ (A ⊎ B)
third_first (inl a) = inr (inl a)
third_first (inr (inl b)) = inr (inr b)
third_first (inr (inr c)) = inl c

same_back : (t o : Corners) → is_flat t ≡ false → AreOnSamePlaces t o → AreOnSamePlaces o t
same_back t o full h =
    let ab = first_apart t full in
    let bc = second_apart t full in
    let ca = third_apart t full in
    record {
      a = among t.0 t.1 t.2 o.0 o.1 o.2 ab bc ca h.a h.b h.c;
      b = among t.0 t.1 t.2 o.1 o.0 o.2 ab bc ca (second_first h.a) (second_first h.b) (second_first h.c);
      c = among t.0 t.1 t.2 o.2 o.0 o.1 ab bc ca (third_first h.a) (third_first h.b) (third_first h.c);
    }

-- and neither does one that the other is beside
pub beside_back : (t o : Corners) → lies_beside o t ≡ true → are_cutting t o ≡ false
beside_back t o e = no (are_cutting t o) (λ h. let c = cutting_holds t o h in beside_apart_of o t e (turned c.first c.common)) where
  turned : is_flat t ≡ false → AreOnSamePlaces t o ⊎ (EdgeMeets t o ⊎ EdgeMeets o t) → AreOnSamePlaces o t ⊎ (EdgeMeets o t ⊎ EdgeMeets t o)
  turned full (inl h) = inl (same_back t o full h)
  turned full (inr (inl h)) = inr (inr h)
  turned full (inr (inr h)) = inr (inl h)
