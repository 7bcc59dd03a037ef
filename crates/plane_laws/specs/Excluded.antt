-- Where an edge can't meet a face: not all three edges of a triangle, and none where it lies inside with both ends.
use Rattle.std.specs.Prelude.{◌≡◌, ℤ, pos, neg_ℤ, ◌+ℤ◌, ◌-ℤ◌, ◌*ℤ◌, Bool, true, false, not}
use Rattle.std.proofs.Common.{arith, refl, sym, ap, subst, ◌∙◌}
use Rattle.std.proofs.lemmas.Int.{ints}
use Rattle.chain_laws.specs.Products.{neg-mul, mul-neg}
use Rattle.plane_laws.specs.Signs.{Signed}
use Rattle.plane_laws.specs.Areas.{Place, area, areas_balance_at}
use Rattle.plane_laws.specs.Meetings.{IsMeeting, zero_times}
use Rattle.plane_laws.specs.Bits.{AreAlike}

-- three numbers can't have three pairs of opposite signs
no_three : (r s t : Bool) (k l m : ℤ) → Signed r k → Signed (not r) l → Signed s l → Signed (not s) m → Signed t m → Signed (not t) k → ⊥
no_three true true t k l m rk rl sl sm tm tk = omega (arith, ints, rl, sl)
no_three true false true k l m rk rl sl sm tm tk = omega (arith, ints, rk, tk)
no_three true false false k l m rk rl sl sm tm tk = omega (arith, ints, sm, tm)
no_three false false t k l m rk rl sl sm tm tk = omega (arith, ints, rl, sl)
no_three false true true k l m rk rl sl sm tm tk = omega (arith, ints, sm, tm)
no_three false true false k l m rk rl sl sm tm tk = omega (arith, ints, rk, tk)

-- so an edge doesn't meet all three edges of a face
pub no_edge_meets_three : (a b u v w : Place) → IsMeeting a b u v → IsMeeting a b v w → IsMeeting a b w u → ⊥
no_edge_meets_three a b u v w h k l = no_three h.side k.side l.side (area a b u) (area a b v) (area a b w) h.c_side h.d_side k.c_side k.d_side l.c_side l.d_side

-- nor do all three edges of a face of P meet an edge of Q
pub no_three_meet_edge : (u v w c d : Place) → IsMeeting u v c d → IsMeeting v w c d → IsMeeting w u c d → ⊥
no_three_meet_edge u v w c d h k l = no_three l.side k.side h.side (area c d u) (area c d w) (area c d v) l.b_side l.a_side k.b_side k.a_side h.b_side h.a_side

-- the areas of a vertex with the edges of a face have the face's area as their sum, so those of two vertices inside have one sign
same_side : (s t : Bool) (k l m k' l' m' : ℤ) → Signed s k → Signed s l → Signed s m → Signed t k' → Signed t l' → Signed t m' → k +ℤ l +ℤ m ≡ k' +ℤ l' +ℤ m' → s ≡ t
same_side true true k l m k' l' m' a b c a' b' c' e = refl
same_side false false k l m k' l' m' a b c a' b' c' e = refl
same_side true false k l m k' l' m' a b c a' b' c' e = absurd (omega (arith, ints))
same_side false true k l m k' l' m' a b c a' b' c' e = absurd (omega (arith, ints))

-- and an edge inside with both ends doesn't meet an edge of the face
no_two : (r s : Bool) (k l : ℤ) → Signed s k → Signed s l → Signed r k → Signed (not r) l → ⊥
no_two true true k l a b c d = omega (arith, ints, b, d)
no_two true false k l a b c d = omega (arith, ints, a, c)
no_two false true k l a b c d = omega (arith, ints, a, c)
no_two false false k l a b c d = omega (arith, ints, b, d)

-- the areas of a vertex with the three edges
abbrev pub Inside : Place → Place → Place → Place → Type 0
Inside u v w p = AreAlike (area u v p) (area v w p) (area w u p)

-- the places of a face and a vertex balance in x
pub face_balance : (u v w p : Place) → (p.x -ℤ w.x) *ℤ area u v p +ℤ (p.x -ℤ u.x) *ℤ area v w p +ℤ (p.x -ℤ v.x) *ℤ area w u p ≡ pos 0
face_balance u v w p =
    by (u.x -ℤ p.x) (v.x -ℤ p.x) (w.x -ℤ p.x) (p.x -ℤ p.x) (area v w u) (area u v p) (area v w p) (area w u p) _ _ _ _ _
    (omega (arith, ints)) (omega (arith, ints)) (omega (arith, ints)) (omega (arith, ints)) (omega (arith, ints)) (omega (arith, ints)) (areas_balance_at p.x p u v w)
  where
    by : (a b c n s z1 z2 z3 k l a' b' c' : ℤ) → n ≡ pos 0 → k ≡ neg_ℤ z3 → l ≡ z1 → a' ≡ neg_ℤ a → b' ≡ neg_ℤ b → c' ≡ neg_ℤ c → n *ℤ s -ℤ a *ℤ z2 +ℤ b *ℤ k -ℤ c *ℤ l ≡ pos 0 →
        c' *ℤ z1 +ℤ a' *ℤ z2 +ℤ b' *ℤ z3 ≡ pos 0
    by a b c n s z1 z2 z3 k l a' b' c' en ek el ea eb ec h =
        let nothing : n *ℤ s ≡ pos 0 = ap (λ (t : ℤ). t *ℤ s) en ∙ zero_times s in
        let turned : b *ℤ k ≡ neg_ℤ (b *ℤ z3) = ap (λ (t : ℤ). b *ℤ t) ek ∙ mul-neg b z3 in
        let same : c *ℤ l ≡ c *ℤ z1 = ap (λ (t : ℤ). c *ℤ t) el in
        rw (ea, eb, ec) (omega (arith, ints, h, nothing, turned, same, neg-mul a z2, neg-mul b z3, neg-mul c z1))

-- two vertices inside lie on one side of each edge
pub both_inside : (u v w p q : Place) → (h : Inside u v w p) → (k : Inside u v w q) → h.side ≡ k.side
both_inside u v w p q h k = same_side h.side k.side _ _ _ _ _ _ h.first h.second h.third k.first k.second k.third (omega (arith, ints))

-- so an edge of P inside a face of Q with both ends meets none of its edges
pub none_met_inside : (a b c d : Place) (s t : Bool) → s ≡ t → Signed s (area c d a) → Signed t (area c d b) → IsMeeting a b c d → ⊥
none_met_inside a b c d s t e ha hb h =
    no_two (not h.side) s (area c d a) (area c d b) ha (subst (λ (r : Bool). Signed r (area c d b)) (sym e) hb) h.a_side (twice h.side h.b_side) where
      twice : (r : Bool) → Signed r (area c d b) → Signed (not (not r)) (area c d b)
      twice true k = k
      twice false k = k

-- nor an edge of Q inside a face of P
pub none_meets_inside : (a b c d : Place) (s t : Bool) → s ≡ t → Signed s (area a b c) → Signed t (area a b d) → IsMeeting a b c d → ⊥
none_meets_inside a b c d s t e hc hd h = no_two h.side s (area a b c) (area a b d) hc (subst (λ (r : Bool). Signed r (area a b d)) (sym e) hd) h.c_side h.d_side
