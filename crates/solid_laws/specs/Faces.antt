-- The shadow of a vertex of P on a face of Q, by the shadows on its edges and the volume that the moved vertex makes with it.
use Rattle.std.specs.Prelude.{◌≡◌, ◌≢◌, ℤ, pos, neg_ℤ, ◌+ℤ◌, ◌-ℤ◌, ◌*ℤ◌, ◌≤ℤ◌, ◌<ℤ◌, ◌⊎◌, Bool, true, false, if◌then◌else◌}
use Rattle.std.proofs.Common.{arith, refl, sym, ap, subst, inl, inr, ◌∙◌}
use Rattle.std.proofs.lemmas.Int.{ints}
use Rattle.chain_terms.specs.Sums.{total}
use Rattle.mb_base.specs.declared.point.Corner.{Corner}
use Rattle.side_terms.specs.Corners.{axis}
use Rattle.shadow_kernels.specs.declared.Edge.TheVariants.{OfQ}
use Rattle.shadow_kernels.specs.declared.Spot.{Spot}
use Rattle.shadow_kernels.specs.Spots.{Between, spot_between}
use Rattle.shadow_kernels.specs.Counts.{shadow_of, met, lifted, joined, first_spot}
use Rattle.shadow_kernels.specs.Sizes.{by_zero, met_none, met_some}
use Rattle.shadow_kernels.specs.Shadows.{boundary02, meet02}
use Rattle.plane_laws.specs.Signs.{Signed, signed_mul}
use Rattle.plane_laws.specs.Areas.{Place, area}
use Rattle.plane_laws.specs.Bits.{bit_shadow, SeenBy}
use Rattle.plane_laws.specs.Decisions.{Vector, is_over, face_normal, same_sign}
use Rattle.plane_laws.specs.Above.{opposite}
use Rattle.plane_laws.specs.Excluded.{face_balance}
use Rattle.plane_laws.specs.Heights.{flat}
use Rattle.plane_laws.specs.Moved.{moved, kept, moved_order}
use Rattle.plane_laws.specs.Unmoved.{seen_vertex, inside_vertex}
use Rattle.exact_kernels.specs.Exact.{exact, exact_beyond, exact_edge, exact_face, position}
use Rattle.exact_kernels.specs.Marks.{place, height_q, mark01, vertex_total}
use Rattle.space_laws.specs.Edges.{EdgeOf, Within, edge_seen, plane}
use Rattle.space_laws.specs.Hair.{lift_p, lift_q, volume_moved, normal_z}
use Rattle.space_laws.specs.Lexical.{OneSign, height_or_lead, digits, decides}
use Rattle.solid_terms.specs.Solids.{volume}
use Rattle.space_laws.specs.Space.{ShadowOf, Seen}
use Rattle.solid_laws.specs.Moved.{moved_volume}
use Rattle.solid_laws.specs.Sights.{above_is, lead_zero, seen_by, scaled}
use Rattle.solid_laws.specs.Bounds.{IsBounded, wide, wide_great, near_by, normal_x_under, normal_y_under, normal_z_under}

-- the shadow of a vertex and an edge
abbrev pub edge_shadow : Corner → Corner → Corner → ℤ
edge_shadow p c d = bit_shadow (exact_beyond p c) (exact_beyond p d) (mark01 p c d)

-- it turns with the edge
pub edge_turned : (p c d : Corner) → edge_shadow p d c ≡ neg_ℤ (edge_shadow p c d)
edge_turned p c d = by (exact_beyond p c) (exact_beyond p d) (exact_edge OfQ p c d) (exact_edge OfQ p d c) where
  by : (s t x y : Bool) → bit_shadow t s (if t then y else x) ≡ neg_ℤ (bit_shadow s t (if s then x else y))
  by true true x y = refl
  by false false x y = refl
  by true false x y = refl
  by false true x y = omega (arith, ints)

-- the shadow of an answer that was made of a count
pub shadow_met : (c : ℤ) (above : Bool) (s : Spot) → shadow_of (met c above s) ≡ (if above then c else pos 0)
shadow_met c above s = by_zero c
    (λ e. ap shadow_of (met_none c above s e) ∙ none above e)
    (λ n. ap shadow_of (met_some c above s n))
  where
    none : (b : Bool) → c ≡ pos 0 → pos 0 ≡ (if b then c else pos 0)
    none true e = sym e
    none false e = refl

-- the count of a vertex and a face
abbrev pub face_count : Corner → Corner → Corner → Corner → ℤ
face_count p u v t = edge_shadow p u v +ℤ edge_shadow p v t +ℤ edge_shadow p t u

-- the shadow of a vertex and a face
abbrev pub face_shade : Between → Corner → Corner → Corner → Corner → ℤ
face_shade w p u v t = shadow_of (meet02 exact w p u v t)

-- it is the count where the vertex is above
pub shade_is : (w : Between) (p u v t : Corner) → face_shade w p u v t ≡ (if exact_face OfQ p u v t then face_count p u v t else pos 0)
unfolding meet02 lifted joined
shade_is w p u v t =
    let ms = boundary02 exact w p u v t in
    shadow_met (total shadow_of ms) (exact_face OfQ p u v t) (spot_between w (first_spot false ms) (first_spot true ms))
    ∙ ap (λ (z : ℤ). if exact_face OfQ p u v t then z else pos 0) (vertex_total w p u v t ∙ same (edge_shadow p u v) (edge_shadow p v t) (edge_shadow p t u))
  where
    same : (a b c : ℤ) → a +ℤ (b +ℤ (c +ℤ pos 0)) ≡ a +ℤ b +ℤ c
    same a b c = omega (arith, ints)

-- a place of P, and one of Q, moved by the hair that fits corners with a bound
module _ (b : ℤ) (sized : pos 0 ≤ℤ b) where
  -- of P: with the hair
  unfoldable pub of_p : Corner → Vector
  of_p c = lift_p (wide b) (position c)

  -- of Q: scaled alone
  unfoldable pub of_q : Corner → Vector
  of_q c = lift_q (wide b) (position c)

  -- the order in x
  pub beyond_sign : (p q : Corner) → Signed (exact_beyond p q) ((of_p p).x -ℤ (of_q q).x)
  unfolding of_p of_q
  beyond_sign p q = moved_order (wide b) (axis 0 p) (axis 0 q) (wide_great b sized)

  -- what the shadow of a vertex and an edge says
  pub edge_is : (p c d : Corner) → IsBounded b c → IsBounded b d →
      EdgeOf (exact_beyond p c) (exact_beyond p d) (area (flat (of_q c)) (flat (of_q d)) (flat (of_p p))) (edge_shadow p c d)
  unfolding of_p of_q
  edge_is p c d hc hd =
      let m = wide b in
      let z = area (kept m (place c)) (kept m (place d)) (moved m (place p)) in
      edge_seen (exact_beyond p c) (exact_beyond p d) (mark01 p c d) z
      (subst (λ (y : ℤ). SeenBy (exact_beyond p c) (exact_beyond p d) (mark01 p c d) z y) (turned (kept m (place c)) (kept m (place d)) (moved m (place p)))
      (subst (λ (u : Bool). SeenBy (exact_beyond p c) (exact_beyond p d) u z (area (kept m (place d)) (kept m (place c)) (moved m (place p))))
      (same (exact_beyond p c) _ _ _ _ (ap (λ (z : ℤ). is_over z (axis 1 c) (axis 1 d)) (sym (height_q p c d)))
      (ap (λ (z : ℤ). is_over z (axis 1 d) (axis 1 c)) (sym (height_q p d c))))
      (seen_vertex m (wide_great b sized) (place c) (place d) (place p) (near_by b sized c d hc hd) (near_by b sized d c hd hc))))
    where
      same : (s t u t' u' : Bool) → t ≡ t' → u ≡ u' → (if s then t else u) ≡ (if s then t' else u')
      same s t u t' u' e f = cc

      turned : (c d x : Place) → area d c x ≡ neg_ℤ (area c d x)
      turned c d x = omega (arith, ints)

  -- the volume of the moved place has the sign of the moved volume
  pub volume_sign : (p u v t : Corner) → IsBounded b u → IsBounded b v → IsBounded b t →
      OneSign (moved_volume (position p) (position u) (position v) (position t)) (volume (of_p p) (of_q u) (of_q v) (of_q t))
  unfolding of_p of_q
  volume_sign p u v t hu hv ht =
      let m = wide b in
      let great = wide_great b sized in
      let n = opposite (face_normal (position u) (position v) (position t)) in
      let h = volume (position p) (position u) (position v) (position t) in
      let some : pos 0 <ℤ m = omega (arith, ints, great) in
      let c = signed_mul true true m m some some in
      scaled (m *ℤ m) (height_or_lead n h) ((m *ℤ m) *ℤ digits m h n.x n.y n.z) _ c (volume_moved m (position p) (position u) (position v) (position t))
      (scaled (m *ℤ m) (height_or_lead n h) (digits m h n.x n.y n.z) _ c refl
      (decides m h n great (normal_x_under b sized u v t hu hv ht) (normal_y_under b sized u v t hu hv ht) (normal_z_under b sized u v t hu hv ht)))

  -- so the shadow on a face is that of the space lemma
  pub shade_of : (w : Between) (p u v t : Corner) → IsBounded b u → IsBounded b v → IsBounded b t →
      ShadowOf (face_count p u v t) (volume (of_p p) (of_q u) (of_q v) (of_q t)) (face_shade w p u v t)
  unfolding of_p of_q exact_face
  shade_of w p u v t hu hv ht = record {
    none = λ z. shade_is w p u v t ∙ nothing (exact_face OfQ p u v t) (face_count p u v t) z;
    some = λ n. by n (plane (exact_beyond p u) (exact_beyond p v) (exact_beyond p t) ((of_p p).x -ℤ (of_q u).x) ((of_p p).x -ℤ (of_q v).x) ((of_p p).x -ℤ (of_q t).x)
        (area (flat (of_q u)) (flat (of_q v)) (flat (of_p p))) (area (flat (of_q v)) (flat (of_q t)) (flat (of_p p))) (area (flat (of_q t)) (flat (of_q u)) (flat (of_p p)))
        (edge_shadow p u v) (edge_shadow p v t) (edge_shadow p t u)
        (face_balance (flat (of_q u)) (flat (of_q v)) (flat (of_q t)) (flat (of_p p))) (beyond_sign p u) (beyond_sign p v) (beyond_sign p t)
        (edge_is p u v hu hv) (edge_is p v t hv ht) (edge_is p t u ht hu));
  }
    where
      nothing : (b : Bool) (c : ℤ) → c ≡ pos 0 → (if b then c else pos 0) ≡ pos 0
      nothing true c e = e
      nothing false c e = refl

      turn : (k : Bool) → Signed k (area (flat (of_q u)) (flat (of_q v)) (flat (of_p p))) → Signed k (area (flat (of_q v)) (flat (of_q t)) (flat (of_p p))) →
          Signed k (area (flat (of_q t)) (flat (of_q u)) (flat (of_p p))) → Signed k (face_normal (position u) (position v) (position t)).z
      turn k h1 h2 h3 =
          let o = inside_vertex (wide b) (wide_great b sized) k (place u) (place v) (place t) (place p) (near_by b sized u v hu hv) (near_by b sized v t hv ht)
          (near_by b sized t u ht hu) h1 h2 h3 in
          subst (λ (z : ℤ). Signed k z) (normal_z (place u) (place v) (place t) (place p)) o.whole

      above : exact_face OfQ p u v t ≡ same_sign (moved_volume (position p) (position u) (position v) (position t)) (neg_ℤ (face_normal (position u) (position v) (position t)).z)
      above = above_is (position p) (position u) (position v) (position t)

      by : face_count p u v t ≢ pos 0 →
          (face_count p u v t ≡ pos 0) ⊎ Within (area (flat (of_q u)) (flat (of_q v)) (flat (of_p p))) (area (flat (of_q v)) (flat (of_q t)) (flat (of_p p)))
          (area (flat (of_q t)) (flat (of_q u)) (flat (of_p p))) (face_count p u v t) →
          Seen (face_count p u v t) (volume (of_p p) (of_q u) (of_q v) (of_q t)) (face_shade w p u v t)
      by n (inl z) = absurd (n z)
      by n (inr k) =
          seen_by k.side (face_count p u v t) (moved_volume (position p) (position u) (position v) (position t)) (volume (of_p p) (of_q u) (of_q v) (of_q t))
          (face_normal (position u) (position v) (position t)).z (face_shade w p u v t) (exact_face OfQ p u v t) (volume_sign p u v t hu hv ht)
          (lead_zero (opposite (face_normal (position u) (position v) (position t))) (volume (position p) (position u) (position v) (position t)))
          (turn k.side k.first k.second k.third) k.count (shade_is w p u v t) above
