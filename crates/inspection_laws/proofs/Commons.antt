-- A point that an edge and a triangle have in common, with weights of one sum.
use Rattle.std.specs.Prelude.{◌≡◌, ◌≢◌, ℤ, pos, neg_ℤ, ◌+ℤ◌, ◌-ℤ◌, ◌*ℤ◌, ◌≤ℤ◌, ◌<ℤ◌, ◌⊎◌, Bool, true, false}
use Rattle.std.proofs.Common.{arith, refl, sym, ap, inl, inr, ◌∙◌}
use Rattle.std.proofs.lemmas.Int.{ints}
use Rattle.std.proofs.Math.IntN.{*ℤ_comm}
use Rattle.chain_laws.specs.Products.{add-mul, mul-add, mul-sub, sub-mul, mul-neg, neg-mul, mul-assoc, pos_mul, pos_factor}
use Rattle.plane_laws.specs.Areas.{exchanged}
use Rattle.plane_laws.specs.Decisions.{Vector, way, scalar, face_normal}
use Rattle.plane_laws.specs.Moved.{nonneg_mul, times_zero}
use Rattle.solid_terms.specs.Solids.{volume}
use Rattle.space_laws.specs.Places.{volume_rotated}
use Rattle.inspection_terms.specs.Cuts.{IsMean, IsInTriangle, IsOnEdge, IsInShared, HasCorner, EdgeMeets}
use Rattle.inspection_terms.specs.Triangles.{Corners}
use Rattle.inspection_laws.proofs.Numbers.{zero_times, same_factor, above_some, other_zero, by_sign}
use Rattle.inspection_laws.proofs.Spread.{IsSpread}

-- the edge from p to q has with the weights P and Q the point that the triangle has with A, B and C
pub record IsCommon (p q : Vector) (o : Corners) (P Q A B C : ℤ) : Type 0 where
  pub start : pos 0 ≤ℤ P
  pub end : pos 0 ≤ℤ Q
  pub first : pos 0 ≤ℤ A
  pub second : pos 0 ≤ℤ B
  pub third : pos 0 ≤ℤ C
  pub some : pos 0 <ℤ (P +ℤ Q)
  pub whole : A +ℤ B +ℤ C ≡ P +ℤ Q
  pub x : A *ℤ o.0.x +ℤ B *ℤ o.1.x +ℤ C *ℤ o.2.x ≡ P *ℤ p.x +ℤ Q *ℤ q.x
  pub y : A *ℤ o.0.y +ℤ B *ℤ o.1.y +ℤ C *ℤ o.2.y ≡ P *ℤ p.y +ℤ Q *ℤ q.y
  pub z : A *ℤ o.0.z +ℤ B *ℤ o.1.z +ℤ C *ℤ o.2.z ≡ P *ℤ p.z +ℤ Q *ℤ q.z

-- a number times three
times_three : (s a b c u v t : ℤ) → (s *ℤ a) *ℤ u +ℤ (s *ℤ b) *ℤ v +ℤ (s *ℤ c) *ℤ t ≡ s *ℤ (a *ℤ u +ℤ b *ℤ v +ℤ c *ℤ t)
times_three s a b c u v t = omega (arith, ints, mul-assoc s a u, mul-assoc s b v, mul-assoc s c t, mul-add s (a *ℤ u +ℤ b *ℤ v) (c *ℤ t), mul-add s (a *ℤ u) (b *ℤ v))

-- two points on an axis with one place, with sums S and S'
pub axis : (k s s' x a b c u v t a' b' c' u' v' t' : ℤ) → k ≢ pos 0 → s *ℤ x ≡ k *ℤ (a *ℤ u +ℤ b *ℤ v +ℤ c *ℤ t) → s' *ℤ x ≡ k *ℤ (a' *ℤ u' +ℤ b' *ℤ v' +ℤ c' *ℤ t') →
    (s *ℤ a') *ℤ u' +ℤ (s *ℤ b') *ℤ v' +ℤ (s *ℤ c') *ℤ t' ≡ (s' *ℤ a) *ℤ u +ℤ (s' *ℤ b) *ℤ v +ℤ (s' *ℤ c) *ℤ t
axis k s s' x a b c u v t a' b' c' u' v' t' some e e' =
    let l = a' *ℤ u' +ℤ b' *ℤ v' +ℤ c' *ℤ t' in
    let m = a *ℤ u +ℤ b *ℤ v +ℤ c *ℤ t in
    let same : k *ℤ (s *ℤ l) ≡ k *ℤ (s' *ℤ m) =
    exchanged k s l ∙ ap (λ (z : ℤ). s *ℤ z) (sym e') ∙ exchanged s s' x ∙ ap (λ (z : ℤ). s' *ℤ z) e ∙ exchanged s' k m in
    times_three s a' b' c' u' v' t' ∙ same_factor k (s *ℤ l) (s' *ℤ m) some same ∙ sym (times_three s' a b c u v t)

-- the sum of multiples
pub times_sum : (s a b c : ℤ) → s *ℤ a +ℤ s *ℤ b +ℤ s *ℤ c ≡ s *ℤ (a +ℤ b +ℤ c)
times_sum s a b c = omega (arith, ints, mul-add s (a +ℤ b) c, mul-add s a b)

-- where a third has no weight
axis_edge : (k s s' x a b u v t a' b' c' u' v' t' : ℤ) → k ≢ pos 0 → s *ℤ x ≡ k *ℤ (a *ℤ u +ℤ b *ℤ v +ℤ pos 0 *ℤ t) → s' *ℤ x ≡ k *ℤ (a' *ℤ u' +ℤ b' *ℤ v' +ℤ c' *ℤ t') →
    (s *ℤ a') *ℤ u' +ℤ (s *ℤ b') *ℤ v' +ℤ (s *ℤ c') *ℤ t' ≡ (s' *ℤ a) *ℤ u +ℤ (s' *ℤ b) *ℤ v
axis_edge k s s' x a b u v t a' b' c' u' v' t' some e e' =
    let z : (s' *ℤ pos 0) *ℤ t ≡ pos 0 = ap (λ (w : ℤ). w *ℤ t) (times_zero s') ∙ zero_times t in
    axis k s s' x a b (pos 0) u v t a' b' c' u' v' t' some e e' ∙ gone ((s' *ℤ a) *ℤ u) ((s' *ℤ b) *ℤ v) ((s' *ℤ pos 0) *ℤ t) z
  where
    gone : (l m n : ℤ) → n ≡ pos 0 → l +ℤ m +ℤ n ≡ l +ℤ m
    gone l m n e = omega (arith, ints, e)

-- a point on the first edge of a triangle that lies in another
pub common_of : (k : ℤ) (x : Vector) (t o : Corners) (a b a' b' c' : ℤ) → pos 0 <ℤ k → IsMean k x t a b (pos 0) → IsMean k x o a' b' c' →
    IsCommon t.0 t.1 o ((a' +ℤ b' +ℤ c') *ℤ a) ((a' +ℤ b' +ℤ c') *ℤ b) ((a +ℤ b +ℤ pos 0) *ℤ a') ((a +ℤ b +ℤ pos 0) *ℤ b') ((a +ℤ b +ℤ pos 0) *ℤ c')
common_of k x t o a b a' b' c' above m n =
    let s = a +ℤ b +ℤ pos 0 in
    let s' = a' +ℤ b' +ℤ c' in
    let hs : pos 0 ≤ℤ s = omega (arith, ints, m.some) in
    let hs' : pos 0 ≤ℤ s' = omega (arith, ints, n.some) in
    let some = above_some k above in
    let product = pos_mul s' s n.some m.some in
    let total : s' *ℤ a +ℤ s' *ℤ b ≡ s' *ℤ s = omega (arith, ints, mul-add s' (a +ℤ b) (pos 0), mul-add s' a b, times_zero s') in
    record {
      start = nonneg_mul s' a hs' m.first;
      end = nonneg_mul s' b hs' m.second;
      first = nonneg_mul s a' hs n.first;
      second = nonneg_mul s b' hs n.second;
      third = nonneg_mul s c' hs n.third;
      some = omega (arith, ints, total, product);
      whole = times_sum s a' b' c' ∙ *ℤ_comm s s' ∙ sym total;
      x = axis_edge k s s' x.x a b t.0.x t.1.x t.2.x a' b' c' o.0.x o.1.x o.2.x some m.on_x n.on_x;
      y = axis_edge k s s' x.y a b t.0.y t.1.y t.2.y a' b' c' o.0.y o.1.y o.2.y some m.on_y n.on_y;
      z = axis_edge k s s' x.z a b t.0.z t.1.z t.2.z a' b' c' o.0.z o.1.z o.2.z some m.on_z n.on_z;
    }

-- two means of places that are spread are one point only where the weights are in proportion
difference : (s s' a b c a' b' c' u v t : ℤ) → (s *ℤ a') *ℤ u +ℤ (s *ℤ b') *ℤ v +ℤ (s *ℤ c') *ℤ t ≡ (s' *ℤ a) *ℤ u +ℤ (s' *ℤ b) *ℤ v +ℤ (s' *ℤ c) *ℤ t →
    (s *ℤ a' -ℤ s' *ℤ a) *ℤ u +ℤ (s *ℤ b' -ℤ s' *ℤ b) *ℤ v +ℤ (s *ℤ c' -ℤ s' *ℤ c) *ℤ t ≡ pos 0
difference s s' a b c a' b' c' u v t e = omega (arith, ints, e, sub-mul (s *ℤ a') (s' *ℤ a) u, sub-mul (s *ℤ b') (s' *ℤ b) v, sub-mul (s *ℤ c') (s' *ℤ c) t)

pub only : (k : ℤ) (x : Vector) (t : Corners) (a b c a' b' c' : ℤ) → IsSpread t → pos 0 <ℤ k → IsMean k x t a b c → IsMean k x t a' b' c' →
    ((a +ℤ b +ℤ c) *ℤ a' ≡ (a' +ℤ b' +ℤ c') *ℤ a) × ((a +ℤ b +ℤ c) *ℤ b' ≡ (a' +ℤ b' +ℤ c') *ℤ b) × ((a +ℤ b +ℤ c) *ℤ c' ≡ (a' +ℤ b' +ℤ c') *ℤ c)
only k x t a b c a' b' c' spread above m n =
    let s = a +ℤ b +ℤ c in
    let s' = a' +ℤ b' +ℤ c' in
    let some = above_some k above in
    let e =
    spread.first (s *ℤ a' -ℤ s' *ℤ a) (s *ℤ b' -ℤ s' *ℤ b) (s *ℤ c' -ℤ s' *ℤ c)
    (omega (arith, ints, times_sum s a' b' c', times_sum s' a b c, *ℤ_comm s s'))
    (difference s s' a b c a' b' c' t.0.x t.1.x t.2.x (axis k s s' x.x a b c t.0.x t.1.x t.2.x a' b' c' t.0.x t.1.x t.2.x some m.on_x n.on_x))
    (difference s s' a b c a' b' c' t.0.y t.1.y t.2.y (axis k s s' x.y a b c t.0.y t.1.y t.2.y a' b' c' t.0.y t.1.y t.2.y some m.on_y n.on_y))
    (difference s s' a b c a' b' c' t.0.z t.1.z t.2.z (axis k s s' x.z a b c t.0.z t.1.z t.2.z a' b' c' t.0.z t.1.z t.2.z some m.on_z n.on_z)) in
    (omega (arith, ints, e.0), omega (arith, ints, e.1), omega (arith, ints, e.2))

-- so where a corner has a weight in one of them, it has one in the other
weighs : (s s' a a' : ℤ) → pos 0 <ℤ s → pos 0 <ℤ s' → pos 0 <ℤ a → s *ℤ a' ≡ s' *ℤ a → pos 0 <ℤ a'
weighs s s' a a' hs hs' ha e = let p = pos_mul s' a hs' ha in pos_factor s a' hs (omega (arith, ints, p, e))

-- a point between the first two corners is in the hull of what is shared only where both are corners of the other triangle
pub shared_ends : (k : ℤ) (x : Vector) (t o : Corners) (a b c : ℤ) → IsSpread t → pos 0 <ℤ k → IsMean k x t a b c → IsInShared k x t o →
    (pos 0 <ℤ a → HasCorner o t.0) × (pos 0 <ℤ b → HasCorner o t.1)
shared_ends k x t o a b c spread above m h =
    let e = only k x t a b c h.a h.b h.c spread above m h.mean in (
      λ l. h.first (weighs (a +ℤ b +ℤ c) (h.a +ℤ h.b +ℤ h.c) a h.a m.some h.mean.some l e.0),
      λ l. h.second (weighs (a +ℤ b +ℤ c) (h.a +ℤ h.b +ℤ h.c) b h.b m.some h.mean.some l e.1),
    )

-- the point of an edge and a triangle, as a mean of the corners
nothing_third : (P Q p q r : ℤ) → (P +ℤ Q +ℤ pos 0) *ℤ (P *ℤ p +ℤ Q *ℤ q) ≡ (P +ℤ Q) *ℤ (P *ℤ p +ℤ Q *ℤ q +ℤ pos 0 *ℤ r)
nothing_third P Q p q r = same (P +ℤ Q +ℤ pos 0) (P +ℤ Q) (P *ℤ p +ℤ Q *ℤ q) (P *ℤ p +ℤ Q *ℤ q +ℤ pos 0 *ℤ r) (omega (arith, ints)) (omega (arith, ints, zero_times r)) where
  same : (a b c d : ℤ) → a ≡ b → c ≡ d → a *ℤ c ≡ b *ℤ d
  same a b c d e f = cc

edge_mean : (P Q : ℤ) (t : Corners) → pos 0 ≤ℤ P → pos 0 ≤ℤ Q → pos 0 <ℤ (P +ℤ Q) →
    IsMean (P +ℤ Q) (record { x = P *ℤ t.0.x +ℤ Q *ℤ t.1.x; y = P *ℤ t.0.y +ℤ Q *ℤ t.1.y; z = P *ℤ t.0.z +ℤ Q *ℤ t.1.z }) t P Q (pos 0)
edge_mean P Q t hp hq some = record {
  first = hp;
  second = hq;
  third = omega (arith, ints);
  some = omega (arith, ints, some);
  on_x = nothing_third P Q t.0.x t.1.x t.2.x;
  on_y = nothing_third P Q t.0.y t.1.y t.2.y;
  on_z = nothing_third P Q t.0.z t.1.z t.2.z;
}

-- such a point, if not both ends with a weight are corners of the other triangle, is one beyond what is shared
pub meets : (t o : Corners) (P Q A B C : ℤ) → IsSpread t → IsCommon t.0 t.1 o P Q A B C → ((pos 0 <ℤ P → HasCorner o t.0) → (pos 0 <ℤ Q → HasCorner o t.1) → ⊥) → EdgeMeets t o
meets t o P Q A B C spread c beyond =
    let mean = edge_mean P Q t c.start c.end c.some in
    record {
      k = P +ℤ Q;
      x = record { x = P *ℤ t.0.x +ℤ Q *ℤ t.1.x; y = P *ℤ t.0.y +ℤ Q *ℤ t.1.y; z = P *ℤ t.0.z +ℤ Q *ℤ t.1.z };
      above = c.some;
      on_edge = record { a = P; b = Q; c = pos 0; mean = mean; opposite = inr (inr refl) };
      inside = record {
        a = A;
        b = B;
        c = C;
        mean = record {
          first = c.first;
          second = c.second;
          third = c.third;
          some = omega (arith, ints, c.some, c.whole);
          on_x = same _ _ _ _ c.whole (sym c.x);
          on_y = same _ _ _ _ c.whole (sym c.y);
          on_z = same _ _ _ _ c.whole (sym c.z);
        };
      };
      beyond = λ h. let ends = shared_ends _ _ t o P Q (pos 0) spread c.some mean h in beyond ends.0 ends.1;
    }
  where
    same : (a b c d : ℤ) → a ≡ b → c ≡ d → a *ℤ c ≡ b *ℤ d
    same a b c d e f = cc

-- volumes with a corner in the place of the first are 0
no_way : (n s : Vector) → scalar n (way s s) ≡ pos 0
no_way n s = omega (arith, ints, gone n.x s.x, gone n.y s.y, gone n.z s.z) where
  gone : (n s : ℤ) → n *ℤ (s -ℤ s) ≡ pos 0
  gone n s = ap (λ (z : ℤ). n *ℤ z) (omega (arith, ints)) ∙ times_zero n

pub corner_volume : (o : Corners) (p : Vector) → HasCorner o p → volume p o.0 o.1 o.2 ≡ pos 0
corner_volume o p (inl e) = ap (λ (s : Vector). volume s o.0 o.1 o.2) e ∙ no_way (face_normal o.0 o.1 o.2) o.0
corner_volume o p (inr (inl e)) = ap (λ (s : Vector). volume s o.0 o.1 o.2) e ∙ sym (volume_rotated o.1 o.0 o.1 o.2) ∙ no_way (face_normal o.1 o.2 o.0) o.1
corner_volume o p (inr (inr e)) = ap (λ (s : Vector). volume s o.0 o.1 o.2) e ∙ volume_rotated o.2 o.2 o.0 o.1 ∙ no_way (face_normal o.2 o.0 o.1) o.2

-- how far the ends of an edge are over a triangle, at a common point
level_axis : (n P Q A B C u v t p q : ℤ) → A +ℤ B +ℤ C ≡ P +ℤ Q → A *ℤ u +ℤ B *ℤ v +ℤ C *ℤ t ≡ P *ℤ p +ℤ Q *ℤ q →
    P *ℤ (n *ℤ (u -ℤ p)) +ℤ Q *ℤ (n *ℤ (u -ℤ q)) ≡ B *ℤ (n *ℤ (u -ℤ v)) +ℤ C *ℤ (n *ℤ (u -ℤ t))
level_axis n P Q A B C u v t p q w e =
    let d : (A +ℤ B +ℤ C) *ℤ u ≡ (P +ℤ Q) *ℤ u = ap (λ (z : ℤ). z *ℤ u) w in
    let inner : P *ℤ (u -ℤ p) +ℤ Q *ℤ (u -ℤ q) ≡ B *ℤ (u -ℤ v) +ℤ C *ℤ (u -ℤ t) =
    omega (arith, ints, e, d, add-mul (A +ℤ B) C u, add-mul A B u, add-mul P Q u, mul-sub P u p, mul-sub Q u q, mul-sub B u v, mul-sub C u t) in
    omega (
      arith,
      ints,
      exchanged P n (u -ℤ p),
      exchanged Q n (u -ℤ q),
      exchanged B n (u -ℤ v),
      exchanged C n (u -ℤ t),
      mul-add n (P *ℤ (u -ℤ p)) (Q *ℤ (u -ℤ q)),
      mul-add n (B *ℤ (u -ℤ v)) (C *ℤ (u -ℤ t)),
      ap (λ (z : ℤ). n *ℤ z) inner,
    )

pub levels : (p q : Vector) (o : Corners) (P Q A B C : ℤ) → IsCommon p q o P Q A B C → P *ℤ volume p o.0 o.1 o.2 +ℤ Q *ℤ volume q o.0 o.1 o.2 ≡ pos 0
levels p q o P Q A B C h =
    let n = face_normal o.0 o.1 o.2 in
    let ex = level_axis n.x P Q A B C o.0.x o.1.x o.2.x p.x q.x h.whole h.x in
    let ey = level_axis n.y P Q A B C o.0.y o.1.y o.2.y p.y q.y h.whole h.y in
    let ez = level_axis n.z P Q A B C o.0.z o.1.z o.2.z p.z q.z h.whole h.z in
    let hv : volume o.1 o.0 o.1 o.2 ≡ pos 0 = corner_volume o o.1 (inr (inl refl)) in
    let ht : volume o.2 o.0 o.1 o.2 ≡ pos 0 = corner_volume o o.2 (inr (inr refl)) in
    by P Q B C (n.x *ℤ (o.0.x -ℤ p.x)) (n.y *ℤ (o.0.y -ℤ p.y)) (n.z *ℤ (o.0.z -ℤ p.z)) (n.x *ℤ (o.0.x -ℤ q.x)) (n.y *ℤ (o.0.y -ℤ q.y)) (n.z *ℤ (o.0.z -ℤ q.z))
    (n.x *ℤ (o.0.x -ℤ o.1.x)) (n.y *ℤ (o.0.y -ℤ o.1.y)) (n.z *ℤ (o.0.z -ℤ o.1.z)) (n.x *ℤ (o.0.x -ℤ o.2.x)) (n.y *ℤ (o.0.y -ℤ o.2.y)) (n.z *ℤ (o.0.z -ℤ o.2.z)) ex ey ez hv ht
  where
    split : (m x y z : ℤ) → m *ℤ (x +ℤ y +ℤ z) ≡ m *ℤ x +ℤ m *ℤ y +ℤ m *ℤ z
    split m x y z = omega (arith, ints, mul-add m (x +ℤ y) z, mul-add m x y)

    by : (P Q B C px py pz qx qy qz vx vy vz tx ty tz : ℤ) → P *ℤ px +ℤ Q *ℤ qx ≡ B *ℤ vx +ℤ C *ℤ tx → P *ℤ py +ℤ Q *ℤ qy ≡ B *ℤ vy +ℤ C *ℤ ty →
        P *ℤ pz +ℤ Q *ℤ qz ≡ B *ℤ vz +ℤ C *ℤ tz →
        vx +ℤ vy +ℤ vz ≡ pos 0 → tx +ℤ ty +ℤ tz ≡ pos 0 → P *ℤ (px +ℤ py +ℤ pz) +ℤ Q *ℤ (qx +ℤ qy +ℤ qz) ≡ pos 0
    by P Q B C px py pz qx qy qz vx vy vz tx ty tz ex ey ez hv ht =
        omega (
          arith,
          ints,
          ex,
          ey,
          ez,
          split P px py pz,
          split Q qx qy qz,
          split B vx vy vz,
          split C tx ty tz,
          ap (λ (z : ℤ). B *ℤ z) hv,
          ap (λ (z : ℤ). C *ℤ z) ht,
          times_zero B,
          times_zero C,
        )
