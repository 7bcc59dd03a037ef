-- What holds of the places moved by a hair holds, but for touching, of the places themselves; and where an edge can't meet a face.
use Rattle.std.specs.Prelude.{◌≡◌, ℤ, pos, neg_ℤ, ◌+ℤ◌, ◌-ℤ◌, ◌*ℤ◌, ◌≤ℤ◌, ◌<ℤ◌, Bool, true, false, not, int_le, if◌then◌else◌}
use Rattle.std.proofs.Common.{arith, refl, sym, ap, subst, ◌∙◌}
use Rattle.std.proofs.lemmas.Int.{ints, by_lt_z}
use Rattle.chain_laws.specs.Products.{mul-add, mul-sub, mul-neg, pos_mul}
use Rattle.plane_laws.specs.Signs.{Signed, Weak, signed_mul, signed_factor}
use Rattle.plane_laws.specs.Areas.{Place, area}
use Rattle.plane_laws.specs.Meetings.{IsMeeting}
use Rattle.plane_laws.specs.Bits.{SeenBy}
use Rattle.plane_laws.specs.Moved.{times_zero, moved, kept, tilted, tilted_weak, IsUnder, le_true, le_false, over_sign, moved_vertex, moved_edge}
use Rattle.plane_laws.specs.Decisions.{is_over}
use Rattle.plane_laws.specs.Apart.{IsCrossed}

-- places that differ by less than m
pub record AreNear (m : ℤ) (s t : Place) : Type 0 where
  pub x : IsUnder m (t.x -ℤ s.x)
  pub y : IsUnder m (t.y -ℤ s.y)

-- a square
square_pos : (m : ℤ) → pos 0 <ℤ m → pos 0 <ℤ (m *ℤ m)
square_pos m h = pos_mul m m h h

-- a multiple of a square has the number's sign
times_square : (m z : ℤ) (s : Bool) → pos 0 <ℤ m → Signed s z → Signed s ((m *ℤ m) *ℤ z)
times_square m z s h k = signed_mul true s (m *ℤ m) z (square_pos m h) k

-- and the number that of the multiple
of_square : (m z : ℤ) (s : Bool) → pos 0 <ℤ m → Signed s ((m *ℤ m) *ℤ z) → Signed s z
of_square m z s h k = signed_factor true s (m *ℤ m) z (square_pos m h) k

-- numbers turned
neg_signed : (s : Bool) (z : ℤ) → Signed s (neg_ℤ z) → Signed (not s) z
neg_signed true z h = omega (arith, ints)
neg_signed false z h = omega (arith, ints)

-- or 0
neg_weak : (s : Bool) (z : ℤ) → Weak (not s) (neg_ℤ z) → Weak s z
neg_weak true z h = omega (arith, ints)
neg_weak false z h = omega (arith, ints)

-- what the test of an order says
pub le_from : (a b : ℤ) → int_le a b ≡ true → a ≤ℤ b
le_from a b e = by_lt_z b a (λ l. let k = le_false a b l in absurd (cc)) (λ l. l)

-- that a is not at most b
pub not_le_from : (a b : ℤ) → int_le a b ≡ false → b <ℤ a
not_le_from a b e = by_lt_z b a (λ l. l) (λ l. let k = le_true a b l in absurd (cc))

-- a vertex inside a face, or at its rim: the areas with the three edges, and their sum, which is the face's
pub record IsOver (s : Bool) (k l n : ℤ) : Type 0 where
  pub first : Weak s k
  pub second : Weak s l
  pub third : Weak s n
  pub whole : Signed s (k +ℤ l +ℤ n)

module _ (m : ℤ) (great : pos 1 <ℤ m) where
  -- it is above 0
  some : pos 0 <ℤ m
  some = omega (arith, ints)

  -- the area of an edge of Q and a vertex of P
  pub vertex_weak : (s : Bool) (c d a : Place) → AreNear m c d → Signed s (area (kept m c) (kept m d) (moved m a)) → Weak s (area c d a)
  vertex_weak s c d a h k =
      tilted_weak m (area c d a) (d.x -ℤ c.x) (d.y -ℤ c.y) h.x h.y s (of_square m _ s some (subst (λ (z : ℤ). Signed s z) (moved_vertex m c d a) k))

  -- and of an edge of P and a vertex of Q
  pub edge_weak : (s : Bool) (a b c : Place) → AreNear m a b → Signed s (area (moved m a) (moved m b) (kept m c)) → Weak s (area a b c)
  edge_weak s a b c h k =
      neg_weak s (area a b c) (tilted_weak m (neg_ℤ (area a b c)) (b.x -ℤ a.x) (b.y -ℤ a.y) h.x h.y (not s)
      (neg_signed s _ (of_square m _ s some (subst (λ (z : ℤ). Signed s z) (moved_edge m a b c) k))))

  -- of two vertices of P on two sides of an edge of Q the areas differ
  apart : (r : Bool) (c d a b : Place) → Signed r (area (kept m c) (kept m d) (moved m a)) → Signed (not r) (area (kept m c) (kept m d) (moved m b)) →
      Signed r (area c d a -ℤ area c d b)
  apart r c d a b ha hb =
      of_square m (area c d a -ℤ area c d b) r some
      (by r (of_square m _ r some (subst (λ (z : ℤ). Signed r z) (moved_vertex m c d a) ha))
      (of_square m _ (not r) some (subst (λ (z : ℤ). Signed (not r) z) (moved_vertex m c d b) hb)))
    where
      by : (r : Bool) → Signed r (tilted m (area c d a) (d.x -ℤ c.x) (d.y -ℤ c.y)) → Signed (not r) (tilted m (area c d b) (d.x -ℤ c.x) (d.y -ℤ c.y)) →
          Signed r ((m *ℤ m) *ℤ (area c d a -ℤ area c d b))
      by true k l = let e = mul-sub (m *ℤ m) (area c d a) (area c d b) in rw e (omega (arith, ints, k, l))
      by false k l = let e = mul-sub (m *ℤ m) (area c d a) (area c d b) in rw e (omega (arith, ints, k, l))

  -- edges that meet when moved are crossed
  pub record Crossing (a b c d : Place) : Type 0 where
    pub side : Bool
    pub crossed : IsCrossed side (area c d a) (area c d b) (area a b c) (area a b d)

  -- so of the places themselves each edge has the ends of the other on two sides, or on it
  pub crossing_from : (a b c d : Place) → AreNear m a b → AreNear m c d → IsMeeting (moved m a) (moved m b) (kept m c) (kept m d) → Crossing a b c d
  crossing_from a b c d ab cd h = by h.side h.a_side h.b_side h.c_side h.d_side where
    by : (s : Bool) → Signed (not s) (area (kept m c) (kept m d) (moved m a)) → Signed s (area (kept m c) (kept m d) (moved m b)) →
        Signed s (area (moved m a) (moved m b) (kept m c)) → Signed (not s) (area (moved m a) (moved m b) (kept m d)) → Crossing a b c d
    by true ha hb hc hd =
        record {
          side = false;
          crossed =
              record {
                a = vertex_weak false c d a cd ha;
                b = vertex_weak true c d b cd hb;
                c = edge_weak true a b c ab hc;
                d = edge_weak false a b d ab hd;
                some = apart false c d a b ha hb;
              };
        }
    by false ha hb hc hd =
        record {
          side = true;
          crossed =
              record {
                a = vertex_weak true c d a cd ha;
                b = vertex_weak false c d b cd hb;
                c = edge_weak false a b c ab hc;
                d = edge_weak true a b d ab hd;
                some = apart true c d a b ha hb;
              };
        }

  -- whether a vertex of P is over an edge of Q
  pub over_vertex : (l r p : Place) → AreNear m l r → l.x <ℤ r.x → Signed (is_over (area l r p) l.y r.y) (area (kept m l) (kept m r) (moved m p))
  over_vertex l r p h right =
      subst (λ (z : ℤ). Signed (is_over (area l r p) l.y r.y) z) (sym (moved_vertex m l r p))
      (times_square m _ (is_over (area l r p) l.y r.y) some (over_sign m (area l r p) (r.x -ℤ l.x) l.y r.y h.x h.y (omega (arith, ints))))

  -- and an edge of P over a vertex of Q
  pub over_edge : (l r q : Place) → AreNear m l r → l.x <ℤ r.x → Signed (is_over (neg_ℤ (area l r q)) l.y r.y) (area (moved m r) (moved m l) (kept m q))
  over_edge l r q h right =
      let t = is_over (neg_ℤ (area l r q)) l.y r.y in
      turned t (subst (λ (z : ℤ). Signed t (neg_ℤ z)) (sym (moved_edge m l r q))
      (twice t (times_square m _ t some (over_sign m (neg_ℤ (area l r q)) (r.x -ℤ l.x) l.y r.y h.x h.y (omega (arith, ints))))))
    where
      twice : (t : Bool) → Signed t ((m *ℤ m) *ℤ tilted m (neg_ℤ (area l r q)) (r.x -ℤ l.x) (r.y -ℤ l.y)) →
          Signed t (neg_ℤ ((m *ℤ m) *ℤ neg_ℤ (tilted m (neg_ℤ (area l r q)) (r.x -ℤ l.x) (r.y -ℤ l.y))))
      twice true k = omega (arith, ints, k, mul-neg (m *ℤ m) (tilted m (neg_ℤ (area l r q)) (r.x -ℤ l.x) (r.y -ℤ l.y)))
      twice false k = omega (arith, ints, k, mul-neg (m *ℤ m) (tilted m (neg_ℤ (area l r q)) (r.x -ℤ l.x) (r.y -ℤ l.y)))

      turned : (t : Bool) → Signed t (neg_ℤ (area (moved m l) (moved m r) (kept m q))) → Signed t (area (moved m r) (moved m l) (kept m q))
      turned true k = omega (arith, ints, k)
      turned false k = omega (arith, ints, k)

  -- what the mark of a vertex of P and an edge of Q says, by whether the vertex is beyond the ends in x
  pub seen_vertex : (c d p : Place) → AreNear m c d → AreNear m d c →
      SeenBy (int_le c.x p.x) (int_le d.x p.x) (if int_le c.x p.x then is_over (area c d p) c.y d.y else is_over (area d c p) d.y c.y) (area (kept m c) (kept m d) (moved m p))
      (area (kept m d) (kept m c) (moved m p))
  seen_vertex c d p cd dc = by (int_le c.x p.x) (int_le d.x p.x) refl refl where
    by : (s t : Bool) → int_le c.x p.x ≡ s → int_le d.x p.x ≡ t →
        SeenBy s t (if s then is_over (area c d p) c.y d.y else is_over (area d c p) d.y c.y) (area (kept m c) (kept m d) (moved m p)) (area (kept m d) (kept m c) (moved m p))
    by true true e f = tt
    by false false e f = tt
    by true false e f = over_vertex c d p cd (let k = le_from c.x p.x e in let l = not_le_from d.x p.x f in omega (arith, ints, k, l))
    by false true e f = over_vertex d c p dc (let k = not_le_from c.x p.x e in let l = le_from d.x p.x f in omega (arith, ints, k, l))

  -- and that of an edge of P and a vertex of Q, by whether the ends are beyond the vertex
  pub seen_edge : (a b q : Place) → AreNear m a b → AreNear m b a →
      SeenBy (int_le q.x a.x) (int_le q.x b.x) (if int_le q.x b.x then is_over (neg_ℤ (area a b q)) a.y b.y else is_over (neg_ℤ (area b a q)) b.y a.y)
      (area (moved m a) (moved m b) (kept m q)) (area (moved m b) (moved m a) (kept m q))
  seen_edge a b q ab ba = by (int_le q.x a.x) (int_le q.x b.x) refl refl where
    by : (s t : Bool) → int_le q.x a.x ≡ s → int_le q.x b.x ≡ t →
        SeenBy s t (if t then is_over (neg_ℤ (area a b q)) a.y b.y else is_over (neg_ℤ (area b a q)) b.y a.y) (area (moved m a) (moved m b) (kept m q))
        (area (moved m b) (moved m a) (kept m q))
    by true true e f = tt
    by false false e f = tt
    by true false e f = over_edge b a q ba (let k = le_from q.x a.x e in let l = not_le_from q.x b.x f in omega (arith, ints, k, l))
    by false true e f = over_edge a b q ab (let k = not_le_from q.x a.x e in let l = le_from q.x b.x f in omega (arith, ints, k, l))

  -- three tilted heights, of edges that make a ring
  tilted_sum : (k1 k2 k3 w1 w2 w3 d1 d2 d3 : ℤ) → w1 +ℤ w2 +ℤ w3 ≡ pos 0 → d1 +ℤ d2 +ℤ d3 ≡ pos 0 →
      (m *ℤ m) *ℤ (k2 +ℤ k3 +ℤ k1) ≡ tilted m k1 w1 d1 +ℤ tilted m k2 w2 d2 +ℤ tilted m k3 w3 d3
  tilted_sum k1 k2 k3 w1 w2 w3 d1 d2 d3 e f =
      let n = m *ℤ m in
      let g : m *ℤ (d1 +ℤ d2 +ℤ d3) ≡ pos 0 = ap (λ (z : ℤ). m *ℤ z) f ∙ times_zero m in
      omega (arith, ints, e, g, mul-add n (k2 +ℤ k3) k1, mul-add n k2 k3, mul-add m (d1 +ℤ d2) d3, mul-add m d1 d2)

  -- a tilted height turned
  tilted_neg : (k w d : ℤ) → neg_ℤ (tilted m (neg_ℤ k) w d) ≡ tilted m k (neg_ℤ w) (neg_ℤ d)
  tilted_neg k w d = omega (arith, ints, mul-neg (m *ℤ m) k, mul-neg m d)

  -- of such heights of one sign the sum of what was tilted has that sign
  sum_signed : (s : Bool) (k1 k2 k3 w1 w2 w3 d1 d2 d3 : ℤ) → w1 +ℤ w2 +ℤ w3 ≡ pos 0 → d1 +ℤ d2 +ℤ d3 ≡ pos 0 → Signed s (tilted m k1 w1 d1) → Signed s (tilted m k2 w2 d2) →
      Signed s (tilted m k3 w3 d3) → Signed s (k2 +ℤ k3 +ℤ k1)
  sum_signed s k1 k2 k3 w1 w2 w3 d1 d2 d3 e f a b c =
      of_square m (k2 +ℤ k3 +ℤ k1) s some
      (subst (λ (z : ℤ). Signed s z) (sym (tilted_sum k1 k2 k3 w1 w2 w3 d1 d2 d3 e f)) (add s (tilted m k1 w1 d1) (tilted m k2 w2 d2) (tilted m k3 w3 d3) a b c))
    where
      add : (s : Bool) (x y z : ℤ) → Signed s x → Signed s y → Signed s z → Signed s (x +ℤ y +ℤ z)
      add true x y z a b c = omega (arith, ints)
      add false x y z a b c = omega (arith, ints)

  -- a vertex inside a face when moved is inside, or at its rim
  pub inside_vertex : (s : Bool) (u v t p : Place) → AreNear m u v → AreNear m v t → AreNear m t u → Signed s (area (kept m u) (kept m v) (moved m p)) →
      Signed s (area (kept m v) (kept m t) (moved m p)) → Signed s (area (kept m t) (kept m u) (moved m p)) →
      IsOver s (area v t p) (area t u p) (area u v p)
  inside_vertex s u v t p uv vt tu h1 h2 h3 = record {
    first = vertex_weak s v t p vt h2;
    second = vertex_weak s t u p tu h3;
    third = vertex_weak s u v p uv h1;
    whole =
        sum_signed s (area u v p) (area v t p) (area t u p) (v.x -ℤ u.x) (t.x -ℤ v.x) (u.x -ℤ t.x) (v.y -ℤ u.y) (t.y -ℤ v.y) (u.y -ℤ t.y) (omega (arith, ints))
        (omega (arith, ints)) (at u v h1) (at v t h2) (at t u h3);
  }
    where
      at : (c d : Place) → Signed s (area (kept m c) (kept m d) (moved m p)) → Signed s (tilted m (area c d p) (d.x -ℤ c.x) (d.y -ℤ c.y))
      at c d h = of_square m _ s some (subst (λ (z : ℤ). Signed s z) (moved_vertex m c d p) h)

  -- a vertex of Q in a face of P likewise
  pub inside_edge : (s : Bool) (u v t q : Place) → AreNear m u v → AreNear m v t → AreNear m t u → Signed s (area (moved m u) (moved m v) (kept m q)) →
      Signed s (area (moved m v) (moved m t) (kept m q)) → Signed s (area (moved m t) (moved m u) (kept m q)) →
      IsOver s (area v t q) (area t u q) (area u v q)
  inside_edge s u v t q uv vt tu h1 h2 h3 = record {
    first = edge_weak s v t q vt h2;
    second = edge_weak s t u q tu h3;
    third = edge_weak s u v q uv h1;
    whole =
        sum_signed s (area u v q) (area v t q) (area t u q) (neg_ℤ (v.x -ℤ u.x)) (neg_ℤ (t.x -ℤ v.x)) (neg_ℤ (u.x -ℤ t.x)) (neg_ℤ (v.y -ℤ u.y)) (neg_ℤ (t.y -ℤ v.y))
        (neg_ℤ (u.y -ℤ t.y)) (omega (arith, ints)) (omega (arith, ints))
        (at u v h1) (at v t h2) (at t u h3);
  }
    where
      at : (a b : Place) → Signed s (area (moved m a) (moved m b) (kept m q)) → Signed s (tilted m (area a b q) (neg_ℤ (b.x -ℤ a.x)) (neg_ℤ (b.y -ℤ a.y)))
      at a b h = subst (λ (z : ℤ). Signed s z) (tilted_neg (area a b q) (b.x -ℤ a.x) (b.y -ℤ a.y)) (of_square m _ s some (subst (λ (z : ℤ). Signed s z) (moved_edge m a b q) h))
