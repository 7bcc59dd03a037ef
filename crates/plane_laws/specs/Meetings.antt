-- Edges that meet, and places inside triangles, in the plane: by strict signs of areas and of distances in x.
use Rattle.std.specs.Prelude.{◌≡◌, ℤ, pos, neg_ℤ, ◌+ℤ◌, ◌-ℤ◌, ◌*ℤ◌, ◌<ℤ◌, Bool, true, false, not}
use Rattle.std.proofs.Common.{arith, ap}
use Rattle.std.proofs.lemmas.Int.{ints}
use Rattle.chain_laws.specs.Products.{product, mul-neg, neg-mul}
use Rattle.plane_laws.specs.Signs.{Signed, signed_mul, signed_neg, neg_signed, third_below, third_above}
use Rattle.plane_laws.specs.Areas.{Place, area, areas_balance_at}

-- nothing times a number
pub zero_times : (z : ℤ) → pos 0 *ℤ z ≡ pos 0
zero_times z = omega (arith, ints, (product (pos 0) z).is)

-- the edges from a to b and from c to d meet: the ends of each lie on two sides of the other
pub record IsMeeting (a b c d : Place) : Type 0 where
  pub side : Bool
  pub a_side : Signed (not side) (area c d a)
  pub b_side : Signed side (area c d b)
  pub c_side : Signed side (area a b c)
  pub d_side : Signed (not side) (area a b d)

-- whichever is named first
pub meeting_back : (a b c d : Place) → IsMeeting c d a b → IsMeeting a b c d
meeting_back a b c d h = by h.side h.a_side h.b_side h.c_side h.d_side where
  by : (s : Bool) → Signed (not s) (area a b c) → Signed s (area a b d) → Signed s (area c d a) → Signed (not s) (area c d b) → IsMeeting a b c d
  by true c' d' a' b' = record { side = false; a_side = a'; b_side = b'; c_side = c'; d_side = d' }
  by false c' d' a' b' = record { side = true; a_side = a'; b_side = b'; c_side = c'; d_side = d' }

-- and in whichever direction
pub meeting_turned : (a b c d : Place) → IsMeeting b a c d → IsMeeting a b c d
meeting_turned a b c d h = by h.side h.a_side h.b_side h.c_side h.d_side where
  by : (s : Bool) → Signed (not s) (area c d b) → Signed s (area c d a) → Signed s (area b a c) → Signed (not s) (area b a d) → IsMeeting a b c d
  by true b' a' c' d' = record { side = false; a_side = a'; b_side = b'; c_side = omega (arith, ints, c'); d_side = omega (arith, ints, d') }
  by false b' a' c' d' = record { side = true; a_side = a'; b_side = b'; c_side = omega (arith, ints, c'); d_side = omega (arith, ints, d') }

-- the balance seen from one of the four places, where its own area drops out
seen_from_c : (a b c d : Place) → (a.x -ℤ c.x) *ℤ area c d b +ℤ (b.x -ℤ c.x) *ℤ neg_ℤ (area c d a) +ℤ (c.x -ℤ d.x) *ℤ area a b c ≡ pos 0
seen_from_c a b c d =
    by (a.x -ℤ c.x) (b.x -ℤ c.x) (c.x -ℤ c.x) (d.x -ℤ c.x) (c.x -ℤ d.x) (area c d b) (area c d a) (area a b d) (area a b c) (areas_balance_at c.x a b c d)
    (omega (arith, ints)) (omega (arith, ints))
  where
    by : (u v n w w' k l m o : ℤ) → u *ℤ k -ℤ v *ℤ l +ℤ n *ℤ m -ℤ w *ℤ o ≡ pos 0 → n ≡ pos 0 → w' ≡ neg_ℤ w → u *ℤ k +ℤ v *ℤ neg_ℤ l +ℤ w' *ℤ o ≡ pos 0
    by u v n w w' k l m o e z f = rw f (omega (arith, ints, ap (λ (t : ℤ). t *ℤ m) z, zero_times m, mul-neg v l, neg-mul w o))

-- from d
seen_from_d : (a b c d : Place) → (a.x -ℤ d.x) *ℤ area c d b +ℤ (b.x -ℤ d.x) *ℤ neg_ℤ (area c d a) +ℤ (c.x -ℤ d.x) *ℤ area a b d ≡ pos 0
seen_from_d a b c d =
    by (a.x -ℤ d.x) (b.x -ℤ d.x) (c.x -ℤ d.x) (d.x -ℤ d.x) (area c d b) (area c d a) (area a b d) (area a b c) (areas_balance_at d.x a b c d) (omega (arith, ints)) where
      by : (u v w n k l m o : ℤ) → u *ℤ k -ℤ v *ℤ l +ℤ w *ℤ m -ℤ n *ℤ o ≡ pos 0 → n ≡ pos 0 → u *ℤ k +ℤ v *ℤ neg_ℤ l +ℤ w *ℤ m ≡ pos 0
      by u v w n k l m o e z = omega (arith, ints, ap (λ (t : ℤ). t *ℤ o) z, zero_times o, mul-neg v l)

-- from a
seen_from_a : (a b c d : Place) → (b.x -ℤ a.x) *ℤ neg_ℤ (area c d a) +ℤ (d.x -ℤ a.x) *ℤ neg_ℤ (area a b c) +ℤ (c.x -ℤ a.x) *ℤ area a b d ≡ pos 0
seen_from_a a b c d =
    by (a.x -ℤ a.x) (b.x -ℤ a.x) (c.x -ℤ a.x) (d.x -ℤ a.x) (area c d b) (area c d a) (area a b d) (area a b c) (areas_balance_at a.x a b c d) (omega (arith, ints)) where
      by : (n v w u k l m o : ℤ) → n *ℤ k -ℤ v *ℤ l +ℤ w *ℤ m -ℤ u *ℤ o ≡ pos 0 → n ≡ pos 0 → v *ℤ neg_ℤ l +ℤ u *ℤ neg_ℤ o +ℤ w *ℤ m ≡ pos 0
      by n v w u k l m o e z = omega (arith, ints, ap (λ (t : ℤ). t *ℤ k) z, zero_times k, mul-neg v l, mul-neg u o)

-- both ends of an edge lie between those of the other in x, one above it and the other not
pub meeting_between : (s : Bool) (a b c d : Place) → c.x <ℤ a.x → a.x <ℤ d.x → c.x <ℤ b.x → b.x <ℤ d.x → Signed (not s) (area c d a) → Signed s (area c d b) → IsMeeting a b c d
meeting_between s a b c d ca ad cb bd ha hb =
    let below : (c.x -ℤ d.x) <ℤ pos 0 = omega (arith, ints) in
    let na = signed_neg s (area c d a) ha in
    record {
      side = s;
      a_side = ha;
      b_side = hb;
      c_side = third_below s (a.x -ℤ c.x) (area c d b) (b.x -ℤ c.x) (neg_ℤ (area c d a)) (c.x -ℤ d.x) (area a b c) (seen_from_c a b c d)
          (signed_mul true s (a.x -ℤ c.x) (area c d b) (omega (arith, ints)) hb) (signed_mul true s (b.x -ℤ c.x) (neg_ℤ (area c d a)) (omega (arith, ints)) na) below;
      d_side = third_below (not s) (a.x -ℤ d.x) (area c d b) (b.x -ℤ d.x) (neg_ℤ (area c d a)) (c.x -ℤ d.x) (area a b d) (seen_from_d a b c d)
          (signed_mul false s (a.x -ℤ d.x) (area c d b) (omega (arith, ints)) hb) (signed_mul false s (b.x -ℤ d.x) (neg_ℤ (area c d a)) (omega (arith, ints)) na) below;
    }

-- b, c, a, d in this order in x: a over cd and c over ba, or neither
pub meeting_mixed : (s : Bool) (a b c d : Place) → b.x <ℤ c.x → c.x <ℤ a.x → a.x <ℤ d.x → Signed (not s) (area c d a) → Signed s (area a b c) → IsMeeting a b c d
meeting_mixed s a b c d bc ca ad ha hc =
    let na = signed_neg s (area c d a) ha in
    let e : (b.x -ℤ c.x) *ℤ neg_ℤ (area c d a) +ℤ (c.x -ℤ d.x) *ℤ area a b c +ℤ (a.x -ℤ c.x) *ℤ area c d b ≡ pos 0 = omega (arith, ints, seen_from_c a b c d) in
    record {
      side = s;
      a_side = ha;
      b_side = third_above s (b.x -ℤ c.x) (neg_ℤ (area c d a)) (c.x -ℤ d.x) (area a b c) (a.x -ℤ c.x) (area c d b) e
          (signed_mul false s (b.x -ℤ c.x) (neg_ℤ (area c d a)) (omega (arith, ints)) na) (signed_mul false s (c.x -ℤ d.x) (area a b c) (omega (arith, ints)) hc)
          (omega (arith, ints));
      c_side = hc;
      d_side = third_below (not s) (b.x -ℤ a.x) (neg_ℤ (area c d a)) (d.x -ℤ a.x) (neg_ℤ (area a b c)) (c.x -ℤ a.x) (area a b d) (seen_from_a a b c d)
          (signed_mul false s (b.x -ℤ a.x) (neg_ℤ (area c d a)) (omega (arith, ints)) na)
          (signed_mul true (not s) (d.x -ℤ a.x) (neg_ℤ (area a b c)) (omega (arith, ints)) (neg_signed s (area a b c) hc)) (omega (arith, ints));
    }
