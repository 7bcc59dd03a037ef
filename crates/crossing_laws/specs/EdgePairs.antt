-- The shadow of an edge of P and an edge of Q, by the shadows of their ends and the volume that the moved edge makes with the other.
use Rattle.std.specs.Prelude.{◌≡◌, ◌≢◌, ℤ, pos, neg_ℤ, ◌+ℤ◌, ◌-ℤ◌, ◌*ℤ◌, ◌≤ℤ◌, ◌<ℤ◌, Bool, true, false, not, if◌then◌else◌}
use Rattle.std.proofs.Common.{arith, refl, sym, ap, subst, inl, inr, ◌∙◌}
use Rattle.std.proofs.lemmas.Int.{ints}
use Rattle.chain_terms.specs.Sums.{total}
use Rattle.mb_base.specs.declared.point.Corner.{Corner}
use Rattle.side_terms.specs.Corners.{axis}
use Rattle.shadow_kernels.specs.Spots.{Between, spot_between}
use Rattle.shadow_kernels.specs.Counts.{shadow_of, lifted, joined, first_spot}
use Rattle.shadow_kernels.specs.Shadows.{boundary11, meet11}
use Rattle.shadow_kernels.specs.Sizes.{by_zero}
use Rattle.plane_laws.specs.Areas.{Place, area}
use Rattle.plane_laws.specs.Bits.{SeenBy, bit_shadow, edges_meet}
use Rattle.plane_laws.specs.Decisions.{edges_normal, is_above, is_over, same_sign}
use Rattle.plane_laws.specs.Heights.{flat}
use Rattle.plane_laws.specs.Meetings.{IsMeeting}
use Rattle.plane_laws.specs.Moved.{IsUnder, kept, moved}
use Rattle.plane_laws.specs.Signs.{Signed, signed_factor, signed_mul}
use Rattle.plane_laws.specs.Unmoved.{seen_edge, seen_vertex}
use Rattle.exact_kernels.specs.Exact.{exact, exact_beyond, exact_edges, position}
use Rattle.exact_kernels.specs.Marks.{edges_total, height_p, height_q, mark01, mark10, place}
use Rattle.solid_terms.specs.Solids.{volume}
use Rattle.space_laws.specs.Across.{across}
use Rattle.space_laws.specs.Crossed.{Mark, Pair}
use Rattle.space_laws.specs.Edges.{EdgeOf, edge_seen}
use Rattle.space_laws.specs.Fives.{Across}
use Rattle.space_laws.specs.Lexical.{OneSign, decides, digits, height_or_lead}
use Rattle.solid_laws.specs.Bounds.{IsBounded, distance, minor_under, near_by, wide, wide_great}
use Rattle.solid_laws.specs.Faces.{beyond_sign, edge_is, edge_shadow, of_p, of_q, shadow_met}
use Rattle.solid_laws.specs.Sights.{lead_zero, pull, scaled, seen_by}
use Rattle.crossing_laws.specs.EdgeHair.{edge_volume_moved, normal_areas, normal_moved, volume_height}
use Rattle.crossing_laws.specs.Through.{moved_pair}

-- minus the shadow of an edge of P and a vertex of Q
abbrev pub back_shadow : Corner → Corner → Corner → ℤ
back_shadow a b q = bit_shadow (exact_beyond a q) (exact_beyond b q) (mark10 a b q)

-- the count of two edges
abbrev pub edges_count : Corner → Corner → Corner → Corner → ℤ
edges_count a b c d = edge_shadow b c d -ℤ edge_shadow a c d -ℤ back_shadow a b d +ℤ back_shadow a b c

-- their shadow
abbrev pub edges_shade : Between → Corner → Corner → Corner → Corner → ℤ
edges_shade w a b c d = shadow_of (meet11 exact w a b c d)

-- a shadow by bits turns with the edge
pub bits_back : (s t u : Bool) → bit_shadow t s u ≡ neg_ℤ (bit_shadow s t u)
bits_back true true u = refl
bits_back true false u = refl
bits_back false true u = omega (arith, ints)
bits_back false false u = refl

-- the sum of the shadows of boundary pairs is the count
total_count : (w : Between) (a b c d : Corner) → total shadow_of (boundary11 exact w a b c d) ≡ edges_count a b c d
total_count w a b c d =
    edges_total w a b c d
    ∙ by (edge_shadow b c d) (edge_shadow a c d) _ _ (back_shadow a b d) (back_shadow a b c) (bits_back (exact_beyond a d) (exact_beyond b d) (mark10 a b d))
    (bits_back (exact_beyond a c) (exact_beyond b c) (mark10 a b c))
  where
    by : (x y d c d' c' : ℤ) → d ≡ neg_ℤ d' → c ≡ neg_ℤ c' → x +ℤ (neg_ℤ y +ℤ (d +ℤ (neg_ℤ c +ℤ pos 0))) ≡ x -ℤ y -ℤ d' +ℤ c'
    by x y d c d' c' e f = omega (arith, ints, e, f)

-- the shadow is the count where P's edge is above
pub edges_shade_is : (w : Between) (a b c d : Corner) → edges_shade w a b c d ≡ (if exact_edges a b c d then edges_count a b c d else pos 0)
unfolding meet11 lifted joined
edges_shade_is w a b c d =
    let ms = boundary11 exact w a b c d in
    shadow_met (total shadow_of ms) (exact_edges a b c d) (spot_between w (first_spot false ms) (first_spot true ms))
    ∙ ap (λ (z : ℤ). if exact_edges a b c d then z else pos 0) (total_count w a b c d)

-- above by the moved volume
edges_above_is : (a b c d : Corner) → exact_edges a b c d
    ≡ same_sign (moved_pair (position a) (position b) (position c) (position d)) (neg_ℤ (neg_ℤ (edges_normal (position a) (position b) (position c) (position d)).z))
unfolding exact_edges
edges_above_is a b c d =
    let n = edges_normal (position a) (position b) (position c) (position d) in
    ap (λ (h : ℤ). is_above n h) (sym (volume_height (position a) (position b) (position c) (position d)))
    ∙ pull n (volume (position a) (position b) (position c) (position d))
    ∙ ap (λ (z : ℤ). same_sign (moved_pair (position a) (position b) (position c) (position d)) z) (twice n.z)
  where
    twice : (z : ℤ) → z ≡ neg_ℤ (neg_ℤ z)
    twice z = omega (arith, ints)

module _ (b : ℤ) (sized : pos 0 ≤ℤ b) where
  -- what the mark of a vertex of P and an edge of Q says
  vertex_mark : (p c d : Corner) → IsBounded b c → IsBounded b d →
      SeenBy (exact_beyond p c) (exact_beyond p d) (mark01 p c d) (area (flat (of_q b sized c)) (flat (of_q b sized d)) (flat (of_p b sized p)))
      (area (flat (of_q b sized d)) (flat (of_q b sized c)) (flat (of_p b sized p)))
  unfolding of_p of_q
  vertex_mark p c d hc hd =
      let m = wide b in
      subst (λ (u : Bool). SeenBy (exact_beyond p c) (exact_beyond p d) u (area (kept m (place c)) (kept m (place d)) (moved m (place p)))
      (area (kept m (place d)) (kept m (place c)) (moved m (place p))))
      (same (exact_beyond p c) _ _ _ _ (ap (λ (z : ℤ). is_over z (axis 1 c) (axis 1 d)) (sym (height_q p c d)))
      (ap (λ (z : ℤ). is_over z (axis 1 d) (axis 1 c)) (sym (height_q p d c))))
      (seen_vertex m (wide_great b sized) (place c) (place d) (place p) (near_by b sized c d hc hd) (near_by b sized d c hd hc))
    where
      same : (s t u t' u' : Bool) → t ≡ t' → u ≡ u' → (if s then t else u) ≡ (if s then t' else u')
      same s t u t' u' e f = cc

  -- and that of an edge of P and a vertex of Q
  edge_mark : (p q c : Corner) → IsBounded b p → IsBounded b q →
      SeenBy (exact_beyond p c) (exact_beyond q c) (mark10 p q c) (area (flat (of_p b sized p)) (flat (of_p b sized q)) (flat (of_q b sized c)))
      (area (flat (of_p b sized q)) (flat (of_p b sized p)) (flat (of_q b sized c)))
  unfolding of_p of_q
  edge_mark p q c hp hq =
      let m = wide b in
      subst (λ (u : Bool). SeenBy (exact_beyond p c) (exact_beyond q c) u (area (moved m (place p)) (moved m (place q)) (kept m (place c)))
      (area (moved m (place q)) (moved m (place p)) (kept m (place c))))
      (same (exact_beyond q c) _ _ _ _ (ap (λ (z : ℤ). is_over z (axis 1 p) (axis 1 q)) (sym (height_p c p q)))
      (ap (λ (z : ℤ). is_over z (axis 1 q) (axis 1 p)) (sym (height_p c q p))))
      (seen_edge m (wide_great b sized) (place p) (place q) (place c) (near_by b sized p q hp hq) (near_by b sized q p hq hp))
    where
      same : (s t u t' u' : Bool) → t ≡ t' → u ≡ u' → (if s then t else u) ≡ (if s then t' else u')
      same s t u t' u' e f = cc

  -- so the shadow of an edge of P and a vertex of Q
  pub back_edge_is : (p q c : Corner) → IsBounded b p → IsBounded b q →
      EdgeOf (exact_beyond p c) (exact_beyond q c) (area (flat (of_p b sized p)) (flat (of_p b sized q)) (flat (of_q b sized c))) (back_shadow p q c)
  back_edge_is p q c hp hq =
      edge_seen (exact_beyond p c) (exact_beyond q c) (mark10 p q c) (area (flat (of_p b sized p)) (flat (of_p b sized q)) (flat (of_q b sized c)))
      (subst (λ (y : ℤ). SeenBy (exact_beyond p c) (exact_beyond q c) (mark10 p q c) (area (flat (of_p b sized p)) (flat (of_p b sized q)) (flat (of_q b sized c))) y)
      (turned (flat (of_p b sized p)) (flat (of_p b sized q)) (flat (of_q b sized c))) (edge_mark p q c hp hq))
    where
      turned : (c d x : Place) → area d c x ≡ neg_ℤ (area c d x)
      turned c d x = omega (arith, ints)

  -- the numbers of the normal of two edges are under the wide number
  under_back : (m z : ℤ) → IsUnder m (neg_ℤ z) → IsUnder m z
  under_back m z h = record { low = omega (arith, ints, h.high); high = omega (arith, ints, h.low) }

  module _ (p q c d : Corner) (hp : IsBounded b p) (hq : IsBounded b q) (hc : IsBounded b c) (hd : IsBounded b d) where
    -- the volume of the moved edge and the other has the sign of the moved volume
    pub pair_sign : OneSign (moved_pair (position p) (position q) (position c) (position d)) (volume (of_p b sized p) (of_p b sized q) (of_q b sized c) (of_q b sized d))
    unfolding of_p of_q
    pair_sign =
        let m = wide b in
        let great = wide_great b sized in
        let n = edges_normal (position p) (position q) (position c) (position d) in
        let h = volume (position p) (position q) (position c) (position d) in
        let some : pos 0 <ℤ m = omega (arith, ints, great) in
        let e = signed_mul true true m m some some in
        scaled (m *ℤ m) (height_or_lead n h) ((m *ℤ m) *ℤ digits m h n.x n.y n.z) _ e (edge_volume_moved m (position p) (position q) (position c) (position d))
        (scaled (m *ℤ m) (height_or_lead n h) (digits m h n.x n.y n.z) _ e refl
        (decides m h n great
        (under_back m n.x (minor_under b sized _ _ _ _ (distance b sized _ _ hp.y hq.y) (distance b sized _ _ hc.z hd.z) (distance b sized _ _ hp.z hq.z)
        (distance b sized _ _ hc.y hd.y)))
        (under_back m n.y (minor_under b sized _ _ _ _ (distance b sized _ _ hp.z hq.z) (distance b sized _ _ hc.x hd.x) (distance b sized _ _ hp.x hq.x)
        (distance b sized _ _ hc.z hd.z)))
        (under_back m n.z (minor_under b sized _ _ _ _ (distance b sized _ _ hp.x hq.x) (distance b sized _ _ hc.y hd.y) (distance b sized _ _ hp.y hq.y)
        (distance b sized _ _ hc.x hd.x)))))

    -- edges with a count meet
    meeting : edges_count p q c d ≢ pos 0 → IsMeeting (flat (of_p b sized p)) (flat (of_p b sized q)) (flat (of_q b sized c)) (flat (of_q b sized d))
    meeting some =
        edges_meet (flat (of_p b sized p)) (flat (of_p b sized q)) (flat (of_q b sized c)) (flat (of_q b sized d)) (exact_beyond p c) (exact_beyond p d) (exact_beyond q c)
        (exact_beyond q d) (mark01 p c d) (mark01 q c d) (mark10 p q c) (mark10 p q d) (beyond_sign b sized p c) (beyond_sign b sized p d) (beyond_sign b sized q c)
        (beyond_sign b sized q d) (vertex_mark p c d hc hd) (vertex_mark q c d hc hd) (edge_mark p q c hp hq) (edge_mark p q d hp hq)
        (λ z. some (sym (total_count (λ x y s t. x) p q c d) ∙ edges_total (λ x y s t. x) p q c d ∙ z))

    -- the sign of the normal in z where they meet
    leaning : (s : Bool) → Signed (not s) (area (flat (of_q b sized c)) (flat (of_q b sized d)) (flat (of_p b sized p))) →
        Signed s (area (flat (of_q b sized c)) (flat (of_q b sized d)) (flat (of_p b sized q))) →
        Signed s (neg_ℤ (edges_normal (position p) (position q) (position c) (position d)).z)
    unfolding of_p of_q
    leaning s h k =
        let m = wide b in
        let some : pos 0 <ℤ m = omega (arith, ints, wide_great b sized) in
        let e = signed_mul true true m m some some in
        let n = (edges_normal (position p) (position q) (position c) (position d)).z in
        back s n
        (signed_factor true (not s) (m *ℤ m) n e (signed_factor true (not s) (m *ℤ m) ((m *ℤ m) *ℤ n) e
        (subst (λ (z : ℤ). Signed (not s) z) (sym (normal_areas (of_p b sized p) (of_p b sized q) (of_q b sized c) (of_q b sized d))
        ∙ normal_moved m (position p) (position q) (position c) (position d)) (less s _ _ h k))))
      where
        less : (s : Bool) (x y : ℤ) → Signed (not s) x → Signed s y → Signed (not s) (x -ℤ y)
        less true x y h k = omega (arith, ints, h, k)
        less false x y h k = omega (arith, ints, h, k)

        back : (s : Bool) (z : ℤ) → Signed (not s) z → Signed s (neg_ℤ z)
        back true z h = omega (arith, ints, h)
        back false z h = omega (arith, ints, h)

    -- the pair is met or not
    pub edges_pair : (w : Between) →
        Pair (λ s. Across s (area (flat (of_q b sized c)) (flat (of_q b sized d)) (flat (of_p b sized p)))
        (area (flat (of_q b sized c)) (flat (of_q b sized d)) (flat (of_p b sized q)))
        (area (flat (of_p b sized p)) (flat (of_p b sized q)) (flat (of_q b sized c))) (area (flat (of_p b sized p)) (flat (of_p b sized q)) (flat (of_q b sized d))))
        (edges_count p q c d) (volume (of_p b sized p) (of_p b sized q) (of_q b sized c) (of_q b sized d)) (edges_shade w p q c d)
    unfolding Pair
    edges_pair w = by_zero (edges_count p q c d) (λ e. inl (e, edges_shade_is w p q c d ∙ nothing (exact_edges p q c d) _ e)) (λ n. inr (mark n (meeting n))) where
      nothing : (t : Bool) (c : ℤ) → c ≡ pos 0 → (if t then c else pos 0) ≡ pos 0
      nothing true c e = e
      nothing false c e = refl

      flat_in_z : moved_pair (position p) (position q) (position c) (position d) ≡ pos 0 →
          neg_ℤ (neg_ℤ (edges_normal (position p) (position q) (position c) (position d)).z) ≡ pos 0
      flat_in_z e =
          let k = lead_zero (edges_normal (position p) (position q) (position c) (position d)) (volume (position p) (position q) (position c) (position d)) e in
          omega (arith, ints, k)

      mark : edges_count p q c d ≢ pos 0 → IsMeeting (flat (of_p b sized p)) (flat (of_p b sized q)) (flat (of_q b sized c)) (flat (of_q b sized d)) →
          Mark (λ s. Across s (area (flat (of_q b sized c)) (flat (of_q b sized d)) (flat (of_p b sized p)))
          (area (flat (of_q b sized c)) (flat (of_q b sized d)) (flat (of_p b sized q)))
          (area (flat (of_p b sized p)) (flat (of_p b sized q)) (flat (of_q b sized c))) (area (flat (of_p b sized p)) (flat (of_p b sized q)) (flat (of_q b sized d))))
          (edges_count p q c d) (volume (of_p b sized p) (of_p b sized q) (of_q b sized c) (of_q b sized d)) (edges_shade w p q c d)
      mark n h =
          let count =
          across ((of_p b sized p).x -ℤ (of_q b sized c).x) ((of_p b sized p).x -ℤ (of_q b sized d).x) ((of_p b sized q).x -ℤ (of_q b sized c).x)
          ((of_p b sized q).x -ℤ (of_q b sized d).x) ((of_p b sized p).x -ℤ (of_p b sized q).x) _ _ _ _ (edge_shadow p c d) (edge_shadow q c d) (back_shadow p q c)
          (back_shadow p q d) (omega (arith, ints)) (omega (arith, ints)) h.side (exact_beyond p c) (exact_beyond p d) (exact_beyond q c) (exact_beyond q d)
          (beyond_sign b sized p c) (beyond_sign b sized p d) (beyond_sign b sized q c) (beyond_sign b sized q d) (edge_is b sized p c d hc hd) (edge_is b sized q c d hc hd)
          (back_edge_is p q c hp hq) (back_edge_is p q d hp hq) h.a_side h.b_side h.c_side h.d_side n in
          let s =
          seen_by h.side (edges_count p q c d) (moved_pair (position p) (position q) (position c) (position d))
          (volume (of_p b sized p) (of_p b sized q) (of_q b sized c) (of_q b sized d))
          (neg_ℤ (edges_normal (position p) (position q) (position c) (position d)).z) (edges_shade w p q c d) (exact_edges p q c d) pair_sign flat_in_z
          (leaning h.side h.a_side h.b_side) count (edges_shade_is w p q c d) (edges_above_is p q c d) in
          record {
            side = h.side;
            place = record { first = h.a_side; second = h.b_side; third = h.c_side; fourth = h.d_side };
            sight = s.sight;
            volume = s.volume;
            count = count;
            shadow = s.shadow;
          }
