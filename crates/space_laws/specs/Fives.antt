-- Five places in space, two of an edge and three of a face, seen from above: how areas and volumes balance, and which two of the pairs of a corner of
-- one and the rest of it with the other are met.
use Rattle.std.specs.Prelude.{◌≡◌, ℤ, pos, neg_ℤ, ◌+ℤ◌, ◌*ℤ◌, Bool, true, false, not}
use Rattle.std.proofs.Common.{arith}
use Rattle.std.proofs.lemmas.Int.{ints}
use Rattle.chain_laws.specs.Products.{mul-neg}
use Rattle.plane_laws.specs.Signs.{Signed}
use Rattle.space_laws.specs.Met.{Alike, seen}

-- an edge from a to b and a face u, v, t: the areas of the face's edges with a, and with b, of the edge with u, v and t, and of the face; the volumes that a, and, turned,
-- b make with the face, and those of the edge with the face's edges
pub record AreFive (a1 a2 a3 b1 b2 b3 u v t whole va vb v1 v2 v3 : ℤ) : Type 0 where
  pub uv : vb *ℤ a1 +ℤ va *ℤ b1 +ℤ v1 *ℤ neg_ℤ whole ≡ pos 0
  pub vt : vb *ℤ a2 +ℤ va *ℤ b2 +ℤ v2 *ℤ neg_ℤ whole ≡ pos 0
  pub tu : vb *ℤ a3 +ℤ va *ℤ b3 +ℤ v3 *ℤ neg_ℤ whole ≡ pos 0
  pub ab : v2 *ℤ u +ℤ v3 *ℤ v +ℤ v1 *ℤ t ≡ pos 0
  pub au : va *ℤ u +ℤ v3 *ℤ a1 +ℤ v1 *ℤ neg_ℤ a3 ≡ pos 0
  pub av : va *ℤ v +ℤ v1 *ℤ a2 +ℤ v2 *ℤ neg_ℤ a1 ≡ pos 0
  pub at : va *ℤ t +ℤ v2 *ℤ a3 +ℤ v3 *ℤ neg_ℤ a2 ≡ pos 0
  pub bu : vb *ℤ neg_ℤ u +ℤ v3 *ℤ b1 +ℤ v1 *ℤ neg_ℤ b3 ≡ pos 0
  pub bv : vb *ℤ neg_ℤ v +ℤ v1 *ℤ b2 +ℤ v2 *ℤ neg_ℤ b1 ≡ pos 0
  pub bt : vb *ℤ neg_ℤ t +ℤ v2 *ℤ b3 +ℤ v3 *ℤ neg_ℤ b2 ≡ pos 0
  pub sum_a : a1 +ℤ a2 +ℤ a3 ≡ whole
  pub sum_b : b1 +ℤ b2 +ℤ b3 ≡ whole

-- the face's corners moved on
pub rotated : {a1 a2 a3 b1 b2 b3 u v t whole va vb v1 v2 v3 : ℤ} → AreFive a1 a2 a3 b1 b2 b3 u v t whole va vb v1 v2 v3 → AreFive a2 a3 a1 b2 b3 b1 v t u whole va vb v2 v3 v1
rotated f = record {
  uv = f.vt;
  vt = f.tu;
  tu = f.uv;
  ab = omega (arith, ints, f.ab);
  au = f.av;
  av = f.at;
  at = f.au;
  bu = f.bv;
  bv = f.bt;
  bt = f.bu;
  sum_a = omega (arith, ints, f.sum_a);
  sum_b = omega (arith, ints, f.sum_b);
}

-- an edge of the face that is met: the ends of each edge lie on two sides of the other
pub record Across (s : Bool) (a b c d : ℤ) : Type 0 where
  pub first : Signed (not s) a
  pub second : Signed s b
  pub third : Signed s c
  pub fourth : Signed (not s) d

-- three volumes of one sign
pub record Three (s : Bool) (x y z : ℤ) : Type 0 where
  pub first : Signed s x
  pub second : Signed s y
  pub third : Signed s z

module _ {a1 a2 a3 b1 b2 b3 u v t whole va vb v1 v2 v3 : ℤ} (f : AreFive a1 a2 a3 b1 b2 b3 u v t whole va vb v1 v2 v3) where
  -- both ends are met: where their volumes have one sign the other three have it
  pub ends : (s q r : Bool) → Alike q a1 a2 a3 → Alike r b1 b2 b3 → Signed s va → Signed s vb → Three s v1 v2 v3
  ends s true true g h x y = record {
    first = seen s true vb va v1 a1 b1 (neg_ℤ whole) f.uv g.first h.first (omega (arith, ints, f.sum_a, g.first, g.second, g.third)) y x;
    second = seen s true vb va v2 a2 b2 (neg_ℤ whole) f.vt g.second h.second (omega (arith, ints, f.sum_a, g.first, g.second, g.third)) y x;
    third = seen s true vb va v3 a3 b3 (neg_ℤ whole) f.tu g.third h.third (omega (arith, ints, f.sum_a, g.first, g.second, g.third)) y x;
  }
  ends s false false g h x y = record {
    first = seen s false vb va v1 a1 b1 (neg_ℤ whole) f.uv g.first h.first (omega (arith, ints, f.sum_a, g.first, g.second, g.third)) y x;
    second = seen s false vb va v2 a2 b2 (neg_ℤ whole) f.vt g.second h.second (omega (arith, ints, f.sum_a, g.first, g.second, g.third)) y x;
    third = seen s false vb va v3 a3 b3 (neg_ℤ whole) f.tu g.third h.third (omega (arith, ints, f.sum_a, g.first, g.second, g.third)) y x;
  }
  ends s true false g h x y = absurd (omega (arith, ints, f.sum_a, f.sum_b, g.first, g.second, g.third, h.first, h.second, h.third))
  ends s false true g h x y = absurd (omega (arith, ints, f.sum_a, f.sum_b, g.first, g.second, g.third, h.first, h.second, h.third))

  -- the start and the first edge
  pub start_edge : (s q r : Bool) → Alike q a1 a2 a3 → Across r a1 b1 u v → Signed s va → Signed s v1 → Three s vb v2 v3
  start_edge s true true g h x y = absurd (omega (arith, ints, g.first, h.first))
  start_edge s false false g h x y = absurd (omega (arith, ints, g.first, h.first))
  start_edge s true false g h x y = record {
    first = seen s false va v1 vb b1 (neg_ℤ whole) a1 (omega (arith, ints, f.uv)) h.second (omega (arith, ints, f.sum_a, g.first, g.second, g.third)) g.first x y;
    second = seen s true va v1 v2 v a2 (neg_ℤ a1) f.av h.fourth g.second (omega (arith, ints, g.first)) x y;
    third = seen s false va v1 v3 u (neg_ℤ a3) a1 (omega (arith, ints, f.au)) h.third (omega (arith, ints, g.third)) g.first x y;
  }
  start_edge s false true g h x y = record {
    first = seen s true va v1 vb b1 (neg_ℤ whole) a1 (omega (arith, ints, f.uv)) h.second (omega (arith, ints, f.sum_a, g.first, g.second, g.third)) g.first x y;
    second = seen s false va v1 v2 v a2 (neg_ℤ a1) f.av h.fourth g.second (omega (arith, ints, g.first)) x y;
    third = seen s true va v1 v3 u (neg_ℤ a3) a1 (omega (arith, ints, f.au)) h.third (omega (arith, ints, g.third)) g.first x y;
  }

  -- the end and the first edge
  pub end_edge : (s q r : Bool) → Alike q b1 b2 b3 → Across r a1 b1 u v → Signed s vb → Signed s v1 → Three s va v2 v3
  end_edge s true false g h x y = absurd (omega (arith, ints, g.first, h.second))
  end_edge s false true g h x y = absurd (omega (arith, ints, g.first, h.second))
  end_edge s true true g h x y = record {
    first = seen s false vb v1 va a1 (neg_ℤ whole) b1 (omega (arith, ints, f.uv)) h.first (omega (arith, ints, f.sum_b, g.first, g.second, g.third)) g.first x y;
    second = seen s true vb v1 v2 (neg_ℤ v) b2 (neg_ℤ b1) f.bv (omega (arith, ints, h.fourth)) g.second (omega (arith, ints, g.first)) x y;
    third = seen s false vb v1 v3 (neg_ℤ u) (neg_ℤ b3) b1 (omega (arith, ints, f.bu)) (omega (arith, ints, h.third)) (omega (arith, ints, g.third)) g.first x y;
  }
  end_edge s false false g h x y = record {
    first = seen s true vb v1 va a1 (neg_ℤ whole) b1 (omega (arith, ints, f.uv)) h.first (omega (arith, ints, f.sum_b, g.first, g.second, g.third)) g.first x y;
    second = seen s false vb v1 v2 (neg_ℤ v) b2 (neg_ℤ b1) f.bv (omega (arith, ints, h.fourth)) g.second (omega (arith, ints, g.first)) x y;
    third = seen s true vb v1 v3 (neg_ℤ u) (neg_ℤ b3) b1 (omega (arith, ints, f.bu)) (omega (arith, ints, h.third)) (omega (arith, ints, g.third)) g.first x y;
  }

  -- the first edge and the second
  pub two_edges : (s q r : Bool) → Across q a1 b1 u v → Across r a2 b2 v t → Signed s v1 → Signed s v2 → Three s va vb v3
  two_edges s true true g h x y = absurd (omega (arith, ints, g.fourth, h.third))
  two_edges s false false g h x y = absurd (omega (arith, ints, g.fourth, h.third))
  two_edges s true false g h x y = record {
    first = seen s true v1 v2 va a2 (neg_ℤ a1) v (omega (arith, ints, f.av)) h.first (omega (arith, ints, g.first)) g.fourth x y;
    second = seen s false v1 v2 vb b2 (neg_ℤ b1) (neg_ℤ v) (omega (arith, ints, f.bv)) h.second (omega (arith, ints, g.second)) (omega (arith, ints, g.fourth)) x y;
    third = seen s true v2 v1 v3 u t v (omega (arith, ints, f.ab)) g.third h.fourth g.fourth y x;
  }
  two_edges s false true g h x y = record {
    first = seen s false v1 v2 va a2 (neg_ℤ a1) v (omega (arith, ints, f.av)) h.first (omega (arith, ints, g.first)) g.fourth x y;
    second = seen s true v1 v2 vb b2 (neg_ℤ b1) (neg_ℤ v) (omega (arith, ints, f.bv)) h.second (omega (arith, ints, g.second)) (omega (arith, ints, g.fourth)) x y;
    third = seen s false v2 v1 v3 u t v (omega (arith, ints, f.ab)) g.third h.fourth g.fourth y x;
  }

  -- both ends and an edge are never met
  pub not_ends_edge : (p q r : Bool) → Alike p a1 a2 a3 → Alike q b1 b2 b3 → Across r a1 b1 u v → ⊥
  not_ends_edge true true true g h k = omega (arith, ints, g.first, k.first)
  not_ends_edge true true false g h k = omega (arith, ints, h.first, k.second)
  not_ends_edge false false true g h k = omega (arith, ints, h.first, k.second)
  not_ends_edge false false false g h k = omega (arith, ints, g.first, k.first)
  not_ends_edge true false r g h k = omega (arith, ints, f.sum_a, f.sum_b, g.first, g.second, g.third, h.first, h.second, h.third)
  not_ends_edge false true r g h k = omega (arith, ints, f.sum_a, f.sum_b, g.first, g.second, g.third, h.first, h.second, h.third)

  -- nor are the three edges
  pub not_three_edges : (p q r : Bool) → Across p a1 b1 u v → Across q a2 b2 v t → Across r a3 b3 t u → ⊥
  not_three_edges true true r g h k = omega (arith, ints, g.fourth, h.third)
  not_three_edges false false r g h k = omega (arith, ints, g.fourth, h.third)
  not_three_edges true false true g h k = omega (arith, ints, g.third, k.fourth)
  not_three_edges true false false g h k = omega (arith, ints, h.fourth, k.third)
  not_three_edges false true false g h k = omega (arith, ints, g.third, k.fourth)
  not_three_edges false true true g h k = omega (arith, ints, h.fourth, k.third)
