-- The exact rule is lawful, under any rounding that stays between.
use Rattle.std.specs.Prelude.{◌≡◌, ◌≢◌, ℤ, pos, Bool, true, false, not, List, ℕ}
use Rattle.std.proofs.Common.{arith, refl, ap, ◌∙◌}
use Rattle.std.proofs.lemmas.Int.{ints}
use Rattle.chain_terms.specs.Sums.{total}
use Rattle.mb_base.specs.declared.point.Corner.{Corner}
use Rattle.side_terms.specs.Corners.{axis}
use Rattle.side_terms.specs.Boxes.{IsInBox}
use Rattle.shadow_kernels.specs.declared.Edge.{Edge}
use Rattle.shadow_kernels.specs.declared.Edge.TheVariants.{OfP, OfQ}
use Rattle.shadow_kernels.specs.Spots.{Between}
use Rattle.shadow_kernels.specs.Counts.{shadow_of}
use Rattle.shadow_kernels.specs.Shadows.{boundary11}
use Rattle.shadow_kernels.specs.Order.{IsOrdered}
use Rattle.shadow_kernels.specs.Edges.{own, other, past, rim}
use Rattle.shadow_kernels.specs.Bounds.{box_below}
use Rattle.shadow_kernels.specs.Hulls.{StaysBetween, IsPlaced, IsBeyond}
use Rattle.shadow_kernels.specs.Lawful.{IsRule}
use Rattle.plane_laws.specs.Unmoved.{le_from, not_le_from, crossing_from, inside_vertex, inside_edge}
use Rattle.plane_laws.specs.Decisions.{is_over}
use Rattle.plane_laws.specs.Beside.{vertex_beside, edge_beside}
use Rattle.plane_laws.specs.Above.{edges_above_turned_p, edges_above_turned_q, vertex_above_exchanged, vertex_above_changed, face_above_exchanged, face_above_changed}
use Rattle.plane_laws.specs.Apart.{Apart, edges_apart, vertex_apart, face_apart}
use Rattle.exact_kernels.specs.Exact.{exact, exact_beyond, exact_edge, exact_edges, exact_face, position}
use Rattle.exact_kernels.specs.Marks.{place, height_q, height_p}
use Rattle.exact_kernels.specs.Placing.{far, far_great, near, exact_edges_meet, exact_vertex_inside, exact_face_inside}

-- x is ordered
pub exact_ordered : IsOrdered exact
exact_ordered = record {
  after = λ p c e. le_from (axis 0 c) (axis 0 p) e;
  before = λ p c e. let k = not_le_from (axis 0 c) (axis 0 p) e in omega (arith, ints, k);
  ends = λ p c d e f. let k = le_from (axis 0 c) (axis 0 p) e in let l = not_le_from (axis 0 d) (axis 0 p) f in omega (arith, ints, k, l);
}

-- values in boxes strictly apart are apart as the boxes are
apart_boxes : (t : Bool) (i : ℕ) (ps qs : List Corner) (y z : ℤ) → IsBeyond i ps qs t → IsInBox i ps y → IsInBox i qs z → Apart t y z
apart_boxes true i ps qs y z h a b = box_below i qs ps z y h b a
apart_boxes false i ps qs y z h a b = box_below i ps qs y z h a b

-- a test that fails
not_true : (b : Bool) → not b ≡ true → b ≡ false
not_true true e = absurd (cc)
not_true false e = refl

-- one that does not
not_false : (b : Bool) → not b ≡ false → b ≡ true
not_false true e = refl
not_false false e = absurd (cc)

-- boxes strictly apart in y decide a vertex and an edge
exact_beside : (e : Edge) (v l r : Corner) (ps qs : List Corner) → IsPlaced (other e ps qs) v → IsPlaced (own e ps qs) l → IsPlaced (own e ps qs) r → past e exact v l ≡ true →
    past e exact v r ≡ false →
    (t : Bool) → IsBeyond 1 ps qs t → exact_edge e v l r ≡ t
exact_beside OfQ p l r ps qs hp hl hr f g t h =
    let after = le_from (axis 0 l) (axis 0 p) f in
    let before = not_le_from (axis 0 r) (axis 0 p) g in
    ap (λ (z : ℤ). is_over z (axis 1 l) (axis 1 r)) (height_q p l r)
    ∙ vertex_beside t (place l) (place r) (place p) after (omega (arith, ints, before)) (omega (arith, ints, after, before)) (apart_boxes t 1 ps qs _ _ h hp.y hl.y)
    (apart_boxes t 1 ps qs _ _ h hp.y hr.y)
exact_beside OfP q l r ps qs hq hl hr f g t h =
    let after = not_le_from (axis 0 q) (axis 0 l) (not_true (exact_beyond l q) f) in
    let before = le_from (axis 0 q) (axis 0 r) (not_false (exact_beyond r q) g) in
    ap (λ (z : ℤ). is_over z (axis 1 l) (axis 1 r)) (height_p q l r)
    ∙ edge_beside t (place l) (place r) (place q) (omega (arith, ints, after)) before (omega (arith, ints, after, before)) (apart_boxes t 1 ps qs _ _ h hl.y hq.y)
    (apart_boxes t 1 ps qs _ _ h hr.y hq.y)

-- exchanges of corners keep what is above
turned_p : (a b c d : Corner) → exact_edges b a c d ≡ exact_edges a b c d
unfolding exact_edges
turned_p a b c d = edges_above_turned_p (position a) (position b) (position c) (position d)

-- of Q's edge
turned_q : (a b c d : Corner) → exact_edges a b d c ≡ exact_edges a b c d
unfolding exact_edges
turned_q a b c d = edges_above_turned_q (position a) (position b) (position c) (position d)

-- the first two corners of a face
exchanged : (e : Edge) (v a b c : Corner) → exact_face e v b a c ≡ exact_face e v a b c
unfolding exact_face
exchanged OfP q a b c = face_above_exchanged (position a) (position b) (position c) (position q)
exchanged OfQ p a b c = vertex_above_exchanged (position p) (position a) (position b) (position c)

-- the last two
changed : (e : Edge) (v a b c : Corner) → exact_face e v a c b ≡ exact_face e v a b c
unfolding exact_face
changed OfP q a b c = face_above_changed (position a) (position b) (position c) (position q)
changed OfQ p a b c = vertex_above_changed (position p) (position a) (position b) (position c)

-- boxes strictly apart in z decide two edges with a count
exact_edges_apart : (w : Between) (a b c d : Corner) (ps qs : List Corner) → IsPlaced ps a → IsPlaced ps b → IsPlaced qs c → IsPlaced qs d → (t : Bool) → IsBeyond 2 ps qs t →
    total shadow_of (boundary11 exact w a b c d) ≢ pos 0 →
    exact_edges a b c d ≡ t
unfolding exact_edges
exact_edges_apart w a b c d ps qs ha hb hc hd t h some =
    let k =
    crossing_from far far_great (place a) (place b) (place c) (place d) (near a b ha.fine hb.fine) (near c d hc.fine hd.fine)
    (exact_edges_meet w a b c d ha.fine hb.fine hc.fine hd.fine some) in
    edges_apart (position a) (position b) (position c) (position d) k.side t k.crossed (apart_boxes t 2 ps qs _ _ h ha.z hc.z) (apart_boxes t 2 ps qs _ _ h ha.z hd.z)
    (apart_boxes t 2 ps qs _ _ h hb.z hc.z) (apart_boxes t 2 ps qs _ _ h hb.z hd.z)

-- and a vertex and a face
exact_face_apart : (w : Between) (e : Edge) (v a b c : Corner) (ps qs : List Corner) → IsPlaced (other e ps qs) v → IsPlaced (own e ps qs) a → IsPlaced (own e ps qs) b →
    IsPlaced (own e ps qs) c →
    (t : Bool) → IsBeyond 2 ps qs t → total shadow_of (rim e exact w v a b c) ≢ pos 0 → exact_face e v a b c ≡ t
unfolding exact_face
exact_face_apart w OfQ p a b c ps qs hp ha hb hc t h some =
    let k = exact_vertex_inside w p a b c ha.fine hb.fine hc.fine some in
    let o =
    inside_vertex far far_great k.side (place a) (place b) (place c) (place p) (near a b ha.fine hb.fine) (near b c hb.fine hc.fine)
    (near c a hc.fine ha.fine) k.first k.second k.third in
    vertex_apart (position p) (position a) (position b) (position c) k.side t o.first o.second o.third o.whole (apart_boxes t 2 ps qs _ _ h hp.z ha.z)
    (apart_boxes t 2 ps qs _ _ h hp.z hb.z) (apart_boxes t 2 ps qs _ _ h hp.z hc.z)
exact_face_apart w OfP q a b c ps qs hq ha hb hc t h some =
    let k = exact_face_inside w a b c q ha.fine hb.fine hc.fine some in
    let o =
    inside_edge far far_great k.side (place a) (place b) (place c) (place q) (near a b ha.fine hb.fine) (near b c hb.fine hc.fine)
    (near c a hc.fine ha.fine) k.first k.second k.third in
    face_apart (position a) (position b) (position c) (position q) k.side t o.first o.second o.third o.whole (apart_boxes t 2 ps qs _ _ h ha.z hq.z)
    (apart_boxes t 2 ps qs _ _ h hb.z hq.z) (apart_boxes t 2 ps qs _ _ h hc.z hq.z)

-- so the rule is lawful
pub exact_rule : (w : Between) → StaysBetween w → IsRule exact w
exact_rule w stays = record {
  stays = stays;
  ordered = exact_ordered;
  beside = λ e v l r ps qs hv hl hr f g t h s hull. exact_beside e v l r ps qs hv hl hr f g t h;
  turned_p = λ a b c d s. turned_p a b c d;
  turned_q = λ a b c d s. turned_q a b c d;
  exchanged = λ e v a b c s. exchanged e v a b c;
  changed = λ e v a b c s. changed e v a b c;
  edges_apart = λ a b c d ps qs ha hb hc hd t h some s hull. exact_edges_apart w a b c d ps qs ha hb hc hd t h some;
  face_apart = λ e v a b c ps qs hv ha hb hc t h some s hull. exact_face_apart w e v a b c ps qs hv ha hb hc t h some;
}
