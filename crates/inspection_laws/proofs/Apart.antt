-- Triangles that cut one another have boxes that touch.
use Rattle.std.specs.Prelude.{◌≡◌, ℕ, ℤ, pos, ◌+ℤ◌, ◌*ℤ◌, ◌-ℤ◌, ◌≤ℤ◌, ◌<ℤ◌, ◌<◌, ◌⊎◌, List, [], ◌∷◌, Bool, true, false, ◌&&◌, get_or, length}
use Rattle.std.specs.Int.{int_max, int_min}
use Rattle.std.specs.Int.Signed.{le_z}
use Rattle.std.specs.List.{All}
use Rattle.std.proofs.Common.{arith, refl, sym, ap, inl, inr, ◌∙◌}
use Rattle.std.proofs.lemmas.Int.{ints, by_lt_z}
use Rattle.std.proofs.lemmas.List.{get_or-map, length-map}
use Rattle.std.proofs.lemmas.List.Elements.{All-map}
use Rattle.std.proofs.Math.IntN.{*ℤ_comm}
use Rattle.chain_laws.specs.Products.{add-mul, mul-add, mul-sub, pos_mul}
use Rattle.chain_laws.proofs.Places.{get_or-up_from, length-up_from}
use Rattle.chain_terms.specs.Sums.{upto}
use Rattle.box_tree.specs.Touching.{IsBox, box_at, overlap, touches}
use Rattle.mb_base.specs.declared.point.Box3.{Box3}
use Rattle.mesh_terms.specs.Meshes.{Mesh}
use Rattle.plane_laws.specs.Moved.{nonneg_mul, times_one}
use Rattle.plane_laws.specs.Decisions.{Vector}
use Rattle.inspection_terms.specs.Cuts.{AreCutting, AreOnSamePlaces, EdgeMeets, HasCorner, IsInTriangle, IsMean, IsOnEdge}
use Rattle.inspection_terms.specs.Triangles.{Corners, corners_at}
use Rattle.inspection_laws.specs.Boxes.{box_round, boxes_of}
use Rattle.inspection_laws.specs.Signs.{are_cutting}
use Rattle.inspection_laws.proofs.Commons.{axis}
use Rattle.inspection_laws.proofs.Cutting.{cutting_holds}
use Rattle.inspection_laws.proofs.Numbers.{above_some, by_sign, zero_times}
use Rattle.inspection_laws.proofs.Tests.{and}

-- the lesser and the greater of two
min_low : (a b : ℤ) → (int_min a b ≤ℤ a) × (int_min a b ≤ℤ b)
min_low a b = (grind (arith, ints), grind (arith, ints))

max_high : (a b : ℤ) → (a ≤ℤ int_max a b) × (b ≤ℤ int_max a b)
max_high a b = (grind (arith, ints), grind (arith, ints))

-- three numbers from low to high
record IsSpan (low high a b c : ℤ) : Type 0 where
  low_a : low ≤ℤ a
  low_b : low ≤ℤ b
  low_c : low ≤ℤ c
  high_a : a ≤ℤ high
  high_b : b ≤ℤ high
  high_c : c ≤ℤ high

span : (a b c : ℤ) → IsSpan (int_min (int_min a b) c) (int_max (int_max a b) c) a b c
span a b c =
    let l = min_low a b in
    let m = min_low (int_min a b) c in
    let h = max_high a b in
    let k = max_high (int_max a b) c in
    record {
      low_a = omega (arith, ints, l.0, m.0);
      low_b = omega (arith, ints, l.1, m.0);
      low_c = m.1;
      high_a = omega (arith, ints, h.0, k.0);
      high_b = omega (arith, ints, h.1, k.0);
      high_c = k.1;
    }

-- a mean lies between them
weighed : (w low u : ℤ) → pos 0 ≤ℤ w → low ≤ℤ u → (w *ℤ low) ≤ℤ (w *ℤ u)
weighed w low u h k = let m = nonneg_mul w (u -ℤ low) h (omega (arith, ints, k)) in omega (arith, ints, m, mul-sub w u low)

sum_low : (a b c low u v t : ℤ) → pos 0 ≤ℤ a → pos 0 ≤ℤ b → pos 0 ≤ℤ c → low ≤ℤ u → low ≤ℤ v → low ≤ℤ t → (a *ℤ low +ℤ b *ℤ low +ℤ c *ℤ low) ≤ℤ (a *ℤ u +ℤ b *ℤ v +ℤ c *ℤ t)
sum_low a b c low u v t ha hb hc hu hv ht = omega (arith, ints, weighed a low u ha hu, weighed b low v hb hv, weighed c low t hc ht)

sum_high : (a b c high u v t : ℤ) → pos 0 ≤ℤ a → pos 0 ≤ℤ b → pos 0 ≤ℤ c → u ≤ℤ high → v ≤ℤ high → t ≤ℤ high → (a *ℤ u +ℤ b *ℤ v +ℤ c *ℤ t) ≤ℤ (a *ℤ high +ℤ b *ℤ high +ℤ c *ℤ high)
sum_high a b c high u v t ha hb hc hu hv ht = omega (arith, ints, weighed a u high ha hu, weighed b v high hb hv, weighed c t high hc ht)

one_times : (z : ℤ) → pos 1 *ℤ z ≡ z
one_times z = *ℤ_comm (pos 1) z ∙ times_one z

-- so the ranges of two triangles with a common point overlap
before : (k s s' x a b c u v t a' b' c' u' v' t' low high : ℤ) → pos 0 <ℤ k → pos 0 <ℤ s → pos 0 <ℤ s' → s ≡ a +ℤ b +ℤ c → s' ≡ a' +ℤ b' +ℤ c' →
    pos 0 ≤ℤ a → pos 0 ≤ℤ b → pos 0 ≤ℤ c → pos 0 ≤ℤ a' → pos 0 ≤ℤ b' → pos 0 ≤ℤ c' →
    s *ℤ x ≡ k *ℤ (a *ℤ u +ℤ b *ℤ v +ℤ c *ℤ t) → s' *ℤ x ≡ k *ℤ (a' *ℤ u' +ℤ b' *ℤ v' +ℤ c' *ℤ t') →
    low ≤ℤ u → low ≤ℤ v → low ≤ℤ t → u' ≤ℤ high → v' ≤ℤ high → t' ≤ℤ high → low ≤ℤ high
before k s s' x a b c u v t a' b' c' u' v' t' low high above hs hs' es es' ha hb hc ha' hb' hc' e e' lu lv lt hu hv ht =
    final (axis k s s' x a b c u v t a' b' c' u' v' t' (above_some k above) e e')
    (sum_low (s' *ℤ a) (s' *ℤ b) (s' *ℤ c) low u v t (times s' a hs' ha) (times s' b hs' hb) (times s' c hs' hc) lu lv lt)
    (sum_high (s *ℤ a') (s *ℤ b') (s *ℤ c') high u' v' t' (times s a' hs ha') (times s b' hs hb') (times s c' hs hc') hu hv ht)
  where
    times : (s a : ℤ) → pos 0 <ℤ s → pos 0 ≤ℤ a → pos 0 ≤ℤ (s *ℤ a)
    times s a h k = nonneg_mul s a (omega (arith, ints, h)) k

    whole : (s s' a b c low : ℤ) → s ≡ a +ℤ b +ℤ c → (s' *ℤ a) *ℤ low +ℤ (s' *ℤ b) *ℤ low +ℤ (s' *ℤ c) *ℤ low ≡ (s' *ℤ s) *ℤ low
    whole s s' a b c low e =
        let w : s' *ℤ s ≡ s' *ℤ a +ℤ s' *ℤ b +ℤ s' *ℤ c = ap (λ (z : ℤ). s' *ℤ z) e ∙ split s' a b c in
        three (s' *ℤ a) (s' *ℤ b) (s' *ℤ c) low ∙ sym (ap (λ (z : ℤ). z *ℤ low) w)
      where
        split : (m x y z : ℤ) → m *ℤ (x +ℤ y +ℤ z) ≡ m *ℤ x +ℤ m *ℤ y +ℤ m *ℤ z
        split m x y z = omega (arith, ints, mul-add m (x +ℤ y) z, mul-add m x y)

        three : (x y z low : ℤ) → x *ℤ low +ℤ y *ℤ low +ℤ z *ℤ low ≡ (x +ℤ y +ℤ z) *ℤ low
        three x y z low = omega (arith, ints, add-mul (x +ℤ y) z low, add-mul x y low)

    final : (s *ℤ a') *ℤ u' +ℤ (s *ℤ b') *ℤ v' +ℤ (s *ℤ c') *ℤ t' ≡ (s' *ℤ a) *ℤ u +ℤ (s' *ℤ b) *ℤ v +ℤ (s' *ℤ c) *ℤ t →
        ((s' *ℤ a) *ℤ low +ℤ (s' *ℤ b) *ℤ low +ℤ (s' *ℤ c) *ℤ low) ≤ℤ ((s' *ℤ a) *ℤ u +ℤ (s' *ℤ b) *ℤ v +ℤ (s' *ℤ c) *ℤ t) →
        ((s *ℤ a') *ℤ u' +ℤ (s *ℤ b') *ℤ v' +ℤ (s *ℤ c') *ℤ t') ≤ℤ ((s *ℤ a') *ℤ high +ℤ (s *ℤ b') *ℤ high +ℤ (s *ℤ c') *ℤ high) → low ≤ℤ high
    final same under over =
        let wl = whole s s' a b c low es in
        let wh = whole s' s a' b' c' high es' in
        let product = pos_mul s' s hs' hs in
        let turned : (s *ℤ s') *ℤ high ≡ (s' *ℤ s) *ℤ high = ap (λ (z : ℤ). z *ℤ high) (*ℤ_comm s s') in
        by_sign (high -ℤ low)
        (λ l. let m = pos_mul (s' *ℤ s) (low -ℤ high) product (omega (arith, ints, l)) in
        absurd (contrary ((s' *ℤ s) *ℤ low) ((s' *ℤ s) *ℤ high) _ _ _ _ _ _ (mul-sub (s' *ℤ s) low high) m wl wh turned same under over))
        (λ l. omega (arith, ints, l))
        (λ l. omega (arith, ints, l))
      where
        contrary : (lo hi d under mid over mid' hi' : ℤ) → d ≡ lo -ℤ hi → pos 0 <ℤ d → under ≡ lo → over ≡ hi' → hi' ≡ hi → mid' ≡ mid → under ≤ℤ mid → mid' ≤ℤ over → ⊥
        contrary lo hi d under mid over mid' hi' e h f g k l m n = omega (arith, ints, e, h, f, g, k, l, m, n)

-- ranges that overlap
overlap_yes : (low high from to : ℤ) → low ≤ℤ high → from ≤ℤ to → low ≤ℤ to → from ≤ℤ high → overlap low high from to ≡ true
overlap_yes low high from to h k l m = grind (arith, ints)

ordered : (low high a b c : ℤ) → IsSpan low high a b c → low ≤ℤ high
ordered low high a b c h = omega (arith, ints, h.low_a, h.high_a)

-- on one axis
on_axis : (k s s' x a b c u v t a' b' c' u' v' t' : ℤ) → pos 0 <ℤ k → pos 0 <ℤ s → pos 0 <ℤ s' → s ≡ a +ℤ b +ℤ c → s' ≡ a' +ℤ b' +ℤ c' →
    pos 0 ≤ℤ a → pos 0 ≤ℤ b → pos 0 ≤ℤ c → pos 0 ≤ℤ a' → pos 0 ≤ℤ b' → pos 0 ≤ℤ c' →
    s *ℤ x ≡ k *ℤ (a *ℤ u +ℤ b *ℤ v +ℤ c *ℤ t) → s' *ℤ x ≡ k *ℤ (a' *ℤ u' +ℤ b' *ℤ v' +ℤ c' *ℤ t') →
    overlap (int_min (int_min u v) t) (int_max (int_max u v) t) (int_min (int_min u' v') t') (int_max (int_max u' v') t') ≡ true
on_axis k s s' x a b c u v t a' b' c' u' v' t' above hs hs' es es' ha hb hc ha' hb' hc' e e' =
    let r = span u v t in
    let r' = span u' v' t' in
    overlap_yes _ _ _ _ (ordered _ _ u v t r) (ordered _ _ u' v' t' r')
    (before k s s' x a b c u v t a' b' c' u' v' t' _ _ above hs hs' es es' ha hb hc ha' hb' hc' e e' r.low_a r.low_b r.low_c r'.high_a r'.high_b r'.high_c)
    (before k s' s x a' b' c' u' v' t' a b c u v t _ _ above hs' hs es' es ha' hb' hc' ha hb hc e' e r'.low_a r'.low_b r'.low_c r.high_a r.high_b r.high_c)

common_touch : (k : ℤ) (x : Vector) (t o : Corners) → pos 0 <ℤ k → IsInTriangle k x t → IsInTriangle k x o → touches (box_round t) (box_round o) ≡ true
common_touch k x t o above m n =
    let h = m.mean in
    let g = n.mean in
    and _ _
    (and _ _
    (on_axis k (m.a +ℤ m.b +ℤ m.c) (n.a +ℤ n.b +ℤ n.c) x.x m.a m.b m.c t.0.x t.1.x t.2.x n.a n.b n.c o.0.x o.1.x o.2.x above
    h.some g.some refl refl h.first h.second h.third g.first g.second g.third h.on_x g.on_x)
    (on_axis k (m.a +ℤ m.b +ℤ m.c) (n.a +ℤ n.b +ℤ n.c) x.y m.a m.b m.c t.0.y t.1.y t.2.y n.a n.b n.c o.0.y o.1.y o.2.y above
    h.some g.some refl refl h.first h.second h.third g.first g.second g.third h.on_y g.on_y))
    (on_axis k (m.a +ℤ m.b +ℤ m.c) (n.a +ℤ n.b +ℤ n.c) x.z m.a m.b m.c t.0.z t.1.z t.2.z n.a n.b n.c o.0.z o.1.z o.2.z above
    h.some g.some refl refl h.first h.second h.third g.first g.second g.third h.on_z g.on_z)

-- a corner as a mean
corner_mean : (p : Vector) (t : Corners) → HasCorner t p → IsInTriangle (pos 1) p t
corner_mean p t (inl e) = record {
  a = pos 1;
  b = pos 0;
  c = pos 0;
  mean = record {
    first = omega (arith, ints);
    second = omega (arith, ints);
    third = omega (arith, ints);
    some = omega (arith, ints);
    on_x = first p.x t.0.x t.1.x t.2.x (ap (λ (v : Vector). v.x) e);
    on_y = first p.y t.0.y t.1.y t.2.y (ap (λ (v : Vector). v.y) e);
    on_z = first p.z t.0.z t.1.z t.2.z (ap (λ (v : Vector). v.z) e);
  };
}
  where
    first : (p u v w : ℤ) → p ≡ u → (pos 1 +ℤ pos 0 +ℤ pos 0) *ℤ p ≡ pos 1 *ℤ (pos 1 *ℤ u +ℤ pos 0 *ℤ v +ℤ pos 0 *ℤ w)
    first p u v w e = omega (arith, ints, e, one_times p, one_times u, one_times (pos 1 *ℤ u +ℤ pos 0 *ℤ v +ℤ pos 0 *ℤ w), zero_times v, zero_times w)
corner_mean p t (inr (inl e)) = record {
  a = pos 0;
  b = pos 1;
  c = pos 0;
  mean = record {
    first = omega (arith, ints);
    second = omega (arith, ints);
    third = omega (arith, ints);
    some = omega (arith, ints);
    on_x = second p.x t.0.x t.1.x t.2.x (ap (λ (v : Vector). v.x) e);
    on_y = second p.y t.0.y t.1.y t.2.y (ap (λ (v : Vector). v.y) e);
    on_z = second p.z t.0.z t.1.z t.2.z (ap (λ (v : Vector). v.z) e);
  };
}
  where
    second : (p u v w : ℤ) → p ≡ v → (pos 0 +ℤ pos 1 +ℤ pos 0) *ℤ p ≡ pos 1 *ℤ (pos 0 *ℤ u +ℤ pos 1 *ℤ v +ℤ pos 0 *ℤ w)
    second p u v w e = omega (arith, ints, e, one_times p, one_times v, one_times (pos 0 *ℤ u +ℤ pos 1 *ℤ v +ℤ pos 0 *ℤ w), zero_times u, zero_times w)
corner_mean p t (inr (inr e)) = record {
  a = pos 0;
  b = pos 0;
  c = pos 1;
  mean = record {
    first = omega (arith, ints);
    second = omega (arith, ints);
    third = omega (arith, ints);
    some = omega (arith, ints);
    on_x = third p.x t.0.x t.1.x t.2.x (ap (λ (v : Vector). v.x) e);
    on_y = third p.y t.0.y t.1.y t.2.y (ap (λ (v : Vector). v.y) e);
    on_z = third p.z t.0.z t.1.z t.2.z (ap (λ (v : Vector). v.z) e);
  };
}
  where
    third : (p u v w : ℤ) → p ≡ w → (pos 0 +ℤ pos 0 +ℤ pos 1) *ℤ p ≡ pos 1 *ℤ (pos 0 *ℤ u +ℤ pos 0 *ℤ v +ℤ pos 1 *ℤ w)
    third p u v w e = omega (arith, ints, e, one_times p, one_times w, one_times (pos 0 *ℤ u +ℤ pos 0 *ℤ v +ℤ pos 1 *ℤ w), zero_times u, zero_times v)

on_edge_in : (k : ℤ) (x : Vector) (t : Corners) → IsOnEdge k x t → IsInTriangle k x t
on_edge_in k x t h = record { a = h.a; b = h.b; c = h.c; mean = h.mean }

-- triangles that cut one another
pub cutting_touch : (t o : Corners) → are_cutting t o ≡ true → touches (box_round t) (box_round o) ≡ true
cutting_touch t o e = by (cutting_holds t o e).common where
  by : AreOnSamePlaces t o ⊎ (EdgeMeets t o ⊎ EdgeMeets o t) → touches (box_round t) (box_round o) ≡ true
  by (inl h) = common_touch (pos 1) t.0 t o (omega (arith, ints)) (corner_mean t.0 t (inl refl)) (corner_mean t.0 o h.a)
  by (inr (inl h)) = common_touch h.k h.x t o h.above (on_edge_in h.k h.x t h.on_edge) h.inside
  by (inr (inr h)) = common_touch h.k h.x t o h.above h.inside (on_edge_in h.k h.x o h.on_edge)

-- the boxes of a mesh
pub many_boxes : (m : Mesh) → length (boxes_of m) ≡ length m.triples
many_boxes m = length-map (upto (length m.triples)) (λ t. box_round (corners_at m t)) ∙ length-up_from 0 (length m.triples)

pub box_is : (m : Mesh) (k : ℕ) → k < length m.triples → box_at (boxes_of m) k ≡ box_round (corners_at m k)
box_is m k low =
    get_or-map (λ t. box_round (corners_at m t)) (upto (length m.triples)) k 0 _ (omega (arith, low, length-up_from 0 (length m.triples)))
    ∙ ap (λ t. box_round (corners_at m t)) (get_or-up_from 0 (length m.triples) k 0 low ∙ omega arith)

pub box_ordered : (t : Corners) → IsBox (box_round t)
box_ordered t = record { x = ordered _ _ _ _ _ (span t.0.x t.1.x t.2.x); y = ordered _ _ _ _ _ (span t.0.y t.1.y t.2.y); z = ordered _ _ _ _ _ (span t.0.z t.1.z t.2.z) }

pub all_ordered : (m : Mesh) → All IsBox (boxes_of m)
all_ordered m = All-map IsBox (λ t. box_round (corners_at m t)) (upto (length m.triples)) (λ k d h. box_ordered (corners_at m (get_or (upto (length m.triples)) k d)))
