-- Corners of which exact tests have a count, as places moved by a hair.
use Rattle.std.specs.Prelude.{◌≡◌, ◌≢◌, ℤ, pos, neg_ℤ, ◌+ℤ◌, ◌-ℤ◌, ◌*ℤ◌, ◌<ℤ◌, Bool, if◌then◌else◌}
use Rattle.std.proofs.Common.{arith, sym, ap, subst, ◌∙◌}
use Rattle.std.proofs.lemmas.Int.{ints}
use Rattle.chain_terms.specs.Sums.{total}
use Rattle.chain_laws.specs.Products.{sub-mul}
use Rattle.mb_base.specs.declared.point.Corner.{Corner}
use Rattle.side_terms.specs.Fine.{fine_edge}
use Rattle.side_terms.specs.Corners.{axis, IsFineCorner}
use Rattle.shadow_kernels.specs.declared.Edge.TheVariants.{OfP, OfQ}
use Rattle.shadow_kernels.specs.Spots.{Between}
use Rattle.shadow_kernels.specs.Counts.{shadow_of}
use Rattle.shadow_kernels.specs.Shadows.{boundary11}
use Rattle.shadow_kernels.specs.Edges.{rim}
use Rattle.plane_laws.specs.Signs.{Signed}
use Rattle.plane_laws.specs.Areas.{Place, area}
use Rattle.plane_laws.specs.Meetings.{IsMeeting}
use Rattle.plane_laws.specs.Bits.{SeenBy, edges_meet, face_meets}
use Rattle.plane_laws.specs.Moved.{moved, kept, moved_order}
use Rattle.plane_laws.specs.Decisions.{is_over}
use Rattle.plane_laws.specs.Unmoved.{AreNear, seen_vertex, seen_edge}
use Rattle.plane_laws.specs.Excluded.{Inside, face_balance}
use Rattle.exact_kernels.specs.Exact.{exact, exact_beyond}
use Rattle.exact_kernels.specs.Marks.{place, height_q, height_p, mark01, mark10, edges_total, vertex_total, face_total}

-- more than all distances of fine corners
abbrev pub far : ℤ
far = pos 2 *ℤ fine_edge +ℤ pos 1

-- it is above 1
pub far_great : pos 1 <ℤ far
far_great = omega (arith, ints)

-- fine corners are nearer than that
pub near : (c d : Corner) → IsFineCorner c → IsFineCorner d → AreNear far (place c) (place d)
near c d h k = record {
  x = record { low = omega (arith, ints, h.x.low, h.x.high, k.x.low, k.x.high); high = omega (arith, ints, h.x.low, h.x.high, k.x.low, k.x.high) };
  y = record { low = omega (arith, ints, h.y.low, h.y.high, k.y.low, k.y.high); high = omega (arith, ints, h.y.low, h.y.high, k.y.low, k.y.high) };
}

-- the places of corners of P and of Q
abbrev pub of_p : Corner → Place
of_p c = moved far (place c)

-- those of Q
abbrev pub of_q : Corner → Place
of_q c = kept far (place c)

-- the order in x
order : (p q : Corner) → Signed (exact_beyond p q) ((of_p p).x -ℤ (of_q q).x)
order p q = moved_order far (axis 0 p) (axis 0 q) far_great

-- what the marks say
seen01 : (p c d : Corner) → IsFineCorner c → IsFineCorner d →
    SeenBy (exact_beyond p c) (exact_beyond p d) (mark01 p c d) (area (of_q c) (of_q d) (of_p p)) (area (of_q d) (of_q c) (of_p p))
seen01 p c d hc hd =
    subst (λ (u : Bool). SeenBy (exact_beyond p c) (exact_beyond p d) u (area (of_q c) (of_q d) (of_p p)) (area (of_q d) (of_q c) (of_p p)))
    (same (exact_beyond p c) _ _ _ _ (ap (λ (z : ℤ). is_over z (axis 1 c) (axis 1 d)) (sym (height_q p c d)))
    (ap (λ (z : ℤ). is_over z (axis 1 d) (axis 1 c)) (sym (height_q p d c))))
    (seen_vertex far far_great (place c) (place d) (place p) (near c d hc hd) (near d c hd hc))
  where
    same : (s t u t' u' : Bool) → t ≡ t' → u ≡ u' → (if s then t else u) ≡ (if s then t' else u')
    same s t u t' u' e f = cc

-- what the mark of an edge and a vertex says
seen10 : (a b q : Corner) → IsFineCorner a → IsFineCorner b →
    SeenBy (exact_beyond a q) (exact_beyond b q) (mark10 a b q) (area (of_p a) (of_p b) (of_q q)) (area (of_p b) (of_p a) (of_q q))
seen10 a b q ha hb =
    subst (λ (u : Bool). SeenBy (exact_beyond a q) (exact_beyond b q) u (area (of_p a) (of_p b) (of_q q)) (area (of_p b) (of_p a) (of_q q)))
    (same (exact_beyond b q) _ _ _ _ (ap (λ (z : ℤ). is_over z (axis 1 a) (axis 1 b)) (sym (height_p q a b)))
    (ap (λ (z : ℤ). is_over z (axis 1 b) (axis 1 a)) (sym (height_p q b a))))
    (seen_edge far far_great (place a) (place b) (place q) (near a b ha hb) (near b a hb ha))
  where
    same : (s t u t' u' : Bool) → t ≡ t' → u ≡ u' → (if s then t else u) ≡ (if s then t' else u')
    same s t u t' u' e f = cc

-- edges with a count meet
pub exact_edges_meet : (w : Between) (a b c d : Corner) → IsFineCorner a → IsFineCorner b → IsFineCorner c → IsFineCorner d →
    total shadow_of (boundary11 exact w a b c d) ≢ pos 0 → IsMeeting (of_p a) (of_p b) (of_q c) (of_q d)
exact_edges_meet w a b c d ha hb hc hd some =
    edges_meet (of_p a) (of_p b) (of_q c) (of_q d) (exact_beyond a c) (exact_beyond a d) (exact_beyond b c) (exact_beyond b d) (mark01 a c d) (mark01 b c d) (mark10 a b c)
    (mark10 a b d)
    (order a c) (order a d) (order b c) (order b d) (seen01 a c d hc hd) (seen01 b c d hc hd) (seen10 a b c ha hb) (seen10 a b d ha hb) (λ z. some (edges_total w a b c d ∙ z))

-- a mark by an area and its negative
by_negative : (s t u : Bool) (z z' z'' : ℤ) → z' ≡ z'' → SeenBy s t u z z' → SeenBy s t u z z''
by_negative s t u z z' z'' e h = subst (λ (y : ℤ). SeenBy s t u z y) e h

-- a vertex of P with a count lies inside a face of Q
pub exact_vertex_inside : (w : Between) (p u v t : Corner) → IsFineCorner u → IsFineCorner v → IsFineCorner t → total shadow_of (rim OfQ exact w p u v t) ≢ pos 0 →
    Inside (of_q u) (of_q v) (of_q t) (of_p p)
exact_vertex_inside w p u v t hu hv ht some =
    let x = of_p p in
    let side : (c d : Corner) → IsFineCorner c → IsFineCorner d → SeenBy (exact_beyond p c) (exact_beyond p d) (mark01 p c d) (area (of_q c) (of_q d) x)
    (neg_ℤ (area (of_q c) (of_q d) x)) = λ c d hc hd.
    by_negative _ _ _ _ _ _ (turned (of_q c) (of_q d) x) (seen01 p c d hc hd) in
    face_meets (x.x -ℤ (of_q u).x) (x.x -ℤ (of_q v).x) (x.x -ℤ (of_q t).x) (area (of_q u) (of_q v) x) (area (of_q v) (of_q t) x) (area (of_q t) (of_q u) x)
    (face_balance (of_q u) (of_q v) (of_q t) x)
    (exact_beyond p u) (exact_beyond p v) (exact_beyond p t) (mark01 p u v) (mark01 p v t) (mark01 p t u) (order p u) (order p v) (order p t) (side u v hu hv) (side v t hv ht)
    (side t u ht hu) (λ z. some (vertex_total w p u v t ∙ z))
  where
    turned : (c d x : Place) → area d c x ≡ neg_ℤ (area c d x)
    turned c d x = omega (arith, ints)

-- and a vertex of Q inside a face of P
pub exact_face_inside : (w : Between) (u v t q : Corner) → IsFineCorner u → IsFineCorner v → IsFineCorner t → total shadow_of (rim OfP exact w q u v t) ≢ pos 0 →
    Inside (of_p u) (of_p v) (of_p t) (of_q q)
exact_face_inside w u v t q hu hv ht some =
    let x = of_q q in
    let side : (a b : Corner) → IsFineCorner a → IsFineCorner b → SeenBy (exact_beyond a q) (exact_beyond b q) (mark10 a b q) (area (of_p a) (of_p b) x)
    (neg_ℤ (area (of_p a) (of_p b) x)) = λ a b ha hb.
    by_negative _ _ _ _ _ _ (turned (of_p a) (of_p b) x) (seen10 a b q ha hb) in
    face_meets ((of_p u).x -ℤ x.x) ((of_p v).x -ℤ x.x) ((of_p t).x -ℤ x.x) (area (of_p u) (of_p v) x) (area (of_p v) (of_p t) x) (area (of_p t) (of_p u) x)
    (back (of_p u).x (of_p v).x (of_p t).x x.x _ _ _ (face_balance (of_p u) (of_p v) (of_p t) x))
    (exact_beyond u q) (exact_beyond v q) (exact_beyond t q) (mark10 u v q) (mark10 v t q) (mark10 t u q) (order u q) (order v q) (order t q) (side u v hu hv) (side v t hv ht)
    (side t u ht hu)
    (λ z. some (face_total w u v t q ∙ ap neg_ℤ z))
  where
    turned : (c d x : Place) → area d c x ≡ neg_ℤ (area c d x)
    turned c d x = omega (arith, ints)

    back : (a b c x k l n : ℤ) → (x -ℤ c) *ℤ k +ℤ (x -ℤ a) *ℤ l +ℤ (x -ℤ b) *ℤ n ≡ pos 0 → (c -ℤ x) *ℤ k +ℤ (a -ℤ x) *ℤ l +ℤ (b -ℤ x) *ℤ n ≡ pos 0
    back a b c x k l n e = omega (arith, ints, e, one c k, one a l, one b n) where
      one : (a k : ℤ) → (a -ℤ x) *ℤ k ≡ neg_ℤ ((x -ℤ a) *ℤ k)
      one a k = omega (arith, ints, sub-mul a x k, sub-mul x a k)
