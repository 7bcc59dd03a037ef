-- Boxes strictly apart in z decide which of two simplices that meet is above the other.
use Rattle.std.specs.Prelude.{◌≡◌, ℤ, pos, neg_ℤ, ◌+ℤ◌, ◌-ℤ◌, ◌*ℤ◌, ◌≤ℤ◌, ◌<ℤ◌, Bool, true, false, not}
use Rattle.std.proofs.Common.{arith, sym, ap, subst, ◌∙◌}
use Rattle.std.proofs.lemmas.Int.{ints, by_lt_z}
use Rattle.std.proofs.Math.IntN.{*ℤ_comm}
use Rattle.chain_laws.specs.Products.{spread, mul-sub, mul-neg, neg-mul}
use Rattle.plane_laws.specs.Signs.{Signed, Weak, like}
use Rattle.plane_laws.specs.Areas.{Place, area}
use Rattle.plane_laws.specs.Moved.{nonneg_mul, times_one}
use Rattle.plane_laws.specs.Heights.{flat, edges_height, face_height}
use Rattle.plane_laws.specs.Decisions.{Vector, way, scalar, edges_normal, edges_above, face_normal, vertex_above, face_above}
use Rattle.plane_laws.specs.Above.{above_signed, normal_is, height_over, height_back}

-- weights of one sign, of which the sum is not 0, times heights of one sign
weighed : (k l m x y z : ℤ) → pos 0 ≤ℤ k → pos 0 ≤ℤ l → pos 0 ≤ℤ m → pos 0 <ℤ (k +ℤ l +ℤ m) → pos 0 <ℤ x → pos 0 <ℤ y → pos 0 <ℤ z → pos 0 <ℤ (k *ℤ x +ℤ l *ℤ y +ℤ m *ℤ z)
weighed k l m x y z hk hl hm some hx hy hz =
    let p = nonneg_mul k (x -ℤ pos 1) hk (omega (arith, ints)) in
    let q = nonneg_mul l (y -ℤ pos 1) hl (omega (arith, ints)) in
    let r = nonneg_mul m (z -ℤ pos 1) hm (omega (arith, ints)) in
    omega (arith, ints, p, q, r, mul-sub k x (pos 1), mul-sub l y (pos 1), mul-sub m z (pos 1), times_one k, times_one l, times_one m)

-- whichever the two signs are
pub weighed_signs : (r t : Bool) (k l m x y z : ℤ) → Weak r k → Weak r l → Weak r m → Signed r (k +ℤ l +ℤ m) → Signed t x → Signed t y → Signed t z →
    Signed (like r t) (k *ℤ x +ℤ l *ℤ y +ℤ m *ℤ z)
weighed_signs true true k l m x y z hk hl hm some hx hy hz = weighed k l m x y z hk hl hm some hx hy hz
weighed_signs true false k l m x y z hk hl hm some hx hy hz =
    let h = weighed k l m (neg_ℤ x) (neg_ℤ y) (neg_ℤ z) hk hl hm some (omega (arith, ints)) (omega (arith, ints)) (omega (arith, ints)) in
    omega (arith, ints, h, mul-neg k x, mul-neg l y, mul-neg m z)
weighed_signs false true k l m x y z hk hl hm some hx hy hz =
    let h = weighed (neg_ℤ k) (neg_ℤ l) (neg_ℤ m) x y z (omega (arith, ints)) (omega (arith, ints)) (omega (arith, ints)) (omega (arith, ints)) hx hy hz in
    omega (arith, ints, h, neg-mul k x, neg-mul l y, neg-mul m z)
weighed_signs false false k l m x y z hk hl hm some hx hy hz =
    let h =
    weighed (neg_ℤ k) (neg_ℤ l) (neg_ℤ m) (neg_ℤ x) (neg_ℤ y) (neg_ℤ z) (omega (arith, ints)) (omega (arith, ints)) (omega (arith, ints)) (omega (arith, ints))
    (omega (arith, ints)) (omega (arith, ints)) (omega (arith, ints)) in
    omega (arith, ints, h, neg-mul k (neg_ℤ x), neg-mul l (neg_ℤ y), neg-mul m (neg_ℤ z), mul-neg k x, mul-neg l y, mul-neg m z)

-- and with weights and heights of two others, both of the other sign
over : (k l m n x y z w : ℤ) → pos 0 ≤ℤ k → pos 0 ≤ℤ l → pos 0 <ℤ (k +ℤ l) → m ≤ℤ pos 0 → n ≤ℤ pos 0 → pos 0 <ℤ x → pos 0 <ℤ y → z ≤ℤ pos 0 → w ≤ℤ pos 0 →
    pos 0 <ℤ (k *ℤ x +ℤ l *ℤ y +ℤ m *ℤ z +ℤ n *ℤ w)
over k l m n x y z w hk hl some hm hn hx hy hz hw =
    let p = nonneg_mul k (x -ℤ pos 1) hk (omega (arith, ints)) in
    let q = nonneg_mul l (y -ℤ pos 1) hl (omega (arith, ints)) in
    let r = nonneg_mul (neg_ℤ m) (neg_ℤ z) (omega (arith, ints)) (omega (arith, ints)) in
    let s = nonneg_mul (neg_ℤ n) (neg_ℤ w) (omega (arith, ints)) (omega (arith, ints)) in
    omega (arith, ints, p, q, r, s, mul-sub k x (pos 1), mul-sub l y (pos 1), times_one k, times_one l, neg-mul m (neg_ℤ z), mul-neg m z, neg-mul n (neg_ℤ w), mul-neg n w)

-- whichever the two signs are
over_signs : (r t : Bool) (k l m n x y z w : ℤ) → Weak r k → Weak r l → Signed r (k +ℤ l) → Weak (not r) m → Weak (not r) n → Signed t x → Signed t y → Weak (not t) z →
    Weak (not t) w →
    Signed (like r t) (k *ℤ x +ℤ l *ℤ y +ℤ m *ℤ z +ℤ n *ℤ w)
over_signs true true k l m n x y z w hk hl some hm hn hx hy hz hw = over k l m n x y z w hk hl some hm hn hx hy hz hw
over_signs true false k l m n x y z w hk hl some hm hn hx hy hz hw =
    let h = over k l m n (neg_ℤ x) (neg_ℤ y) (neg_ℤ z) (neg_ℤ w) hk hl some hm hn (omega (arith, ints)) (omega (arith, ints)) (omega (arith, ints)) (omega (arith, ints)) in
    omega (arith, ints, h, mul-neg k x, mul-neg l y, mul-neg m z, mul-neg n w)
over_signs false true k l m n x y z w hk hl some hm hn hx hy hz hw =
    let h =
    over (neg_ℤ k) (neg_ℤ l) (neg_ℤ m) (neg_ℤ n) x y z w (omega (arith, ints)) (omega (arith, ints)) (omega (arith, ints)) (omega (arith, ints))
    (omega (arith, ints)) hx hy hz hw in
    omega (arith, ints, h, neg-mul k x, neg-mul l y, neg-mul m z, neg-mul n w)
over_signs false false k l m n x y z w hk hl some hm hn hx hy hz hw =
    let h =
    over (neg_ℤ k) (neg_ℤ l) (neg_ℤ m) (neg_ℤ n) (neg_ℤ x) (neg_ℤ y) (neg_ℤ z) (neg_ℤ w) (omega (arith, ints)) (omega (arith, ints)) (omega (arith, ints))
    (omega (arith, ints)) (omega (arith, ints)) (omega (arith, ints)) (omega (arith, ints)) (omega (arith, ints)) (omega (arith, ints)) in
    omega (arith, ints, h, neg-mul k (neg_ℤ x), mul-neg k x, neg-mul l (neg_ℤ y), mul-neg l y, neg-mul m (neg_ℤ z), mul-neg m z, neg-mul n (neg_ℤ w), mul-neg n w)

-- P's heights are above those of Q, or below them
abbrev pub Apart : Bool → ℤ → ℤ → Type 0
Apart true p q = q <ℤ p
Apart false p q = p <ℤ q

-- edges that meet, seen from above, or touch: the signs of the areas of each with the ends of the other
pub record IsCrossed (r : Bool) (sa sb sc sd : ℤ) : Type 0 where
  pub a : Weak r sa
  pub b : Weak (not r) sb
  pub c : Weak (not r) sc
  pub d : Weak r sd
  pub some : Signed r (sa -ℤ sb)

-- the normal in z
edges_normal_is : (A B C D : Place) → (B.x -ℤ A.x) *ℤ (D.y -ℤ C.y) -ℤ (B.y -ℤ A.y) *ℤ (D.x -ℤ C.x) ≡ area C D A -ℤ area C D B
edges_normal_is A B C D = simp spread (omega (arith, ints, *ℤ_comm A.y D.x, *ℤ_comm A.y C.x, *ℤ_comm B.y D.x, *ℤ_comm B.y C.x))

-- a number turned
weak_neg : (r : Bool) (z : ℤ) → Weak (not r) z → Weak r (neg_ℤ z)
weak_neg true z h = omega (arith, ints)
weak_neg false z h = omega (arith, ints)

-- and back
neg_weak : (r : Bool) (z : ℤ) → Weak r z → Weak (not r) (neg_ℤ z)
neg_weak true z h = omega (arith, ints)
neg_weak false z h = omega (arith, ints)

-- a height with two others, of which one is the nearer
module _ (t : Bool) (a b c d : ℤ) (ac : Apart t a c) (ad : Apart t a d) (bc : Apart t b c) (bd : Apart t b d) where
  -- it, and on which side of it the four lie
  record Bound : Type 0 where
    o : ℤ
    a_far : Signed t (a -ℤ o)
    b_far : Signed t (b -ℤ o)
    c_near : Weak (not t) (c -ℤ o)
    d_near : Weak (not t) (d -ℤ o)

-- there is one: the greater or the less of those of Q
bound : (t : Bool) (a b c d : ℤ) (ac : Apart t a c) (ad : Apart t a d) (bc : Apart t b c) (bd : Apart t b d) → Bound t a b c d ac ad bc bd
bound true a b c d ac ad bc bd =
    by_lt_z c d (λ h. record { o = d; a_far = (omega (arith, ints)); b_far = (omega (arith, ints)); c_near = (omega (arith, ints)); d_near = (omega (arith, ints)) })
    (λ h. record { o = c; a_far = (omega (arith, ints)); b_far = (omega (arith, ints)); c_near = (omega (arith, ints)); d_near = (omega (arith, ints)) })
bound false a b c d ac ad bc bd =
    by_lt_z c d (λ h. record { o = c; a_far = (omega (arith, ints)); b_far = (omega (arith, ints)); c_near = (omega (arith, ints)); d_near = (omega (arith, ints)) })
    (λ h. record { o = d; a_far = (omega (arith, ints)); b_far = (omega (arith, ints)); c_near = (omega (arith, ints)); d_near = (omega (arith, ints)) })

-- so boxes apart in z decide which edge is above
pub edges_apart : (a b c d : Vector) (r t : Bool) →
    IsCrossed r (area (flat c) (flat d) (flat a)) (area (flat c) (flat d) (flat b)) (area (flat a) (flat b) (flat c)) (area (flat a) (flat b) (flat d)) →
    Apart t a.z c.z → Apart t a.z d.z → Apart t b.z c.z → Apart t b.z d.z → edges_above a b c d ≡ t
edges_apart a b c d r t h ac ad bc bd =
    let k = bound t a.z b.z c.z d.z ac ad bc bd in
    let sa = area (flat c) (flat d) (flat a) in
    let sb = area (flat c) (flat d) (flat b) in
    let sc = area (flat a) (flat b) (flat c) in
    let sd = area (flat a) (flat b) (flat d) in
    above_signed r t (edges_normal a b c d) (scalar (edges_normal a b c d) (way c a))
    (subst (λ (z : ℤ). Signed r z) (sym (edges_normal_is (flat a) (flat b) (flat c) (flat d))) h.some)
    (subst (λ (z : ℤ). Signed (like r t) z) (sym (edges_height k.o a b c d))
    (over_signs r t sa (neg_ℤ sb) sc (neg_ℤ sd) (b.z -ℤ k.o) (a.z -ℤ k.o) (d.z -ℤ k.o) (c.z -ℤ k.o) h.a (weak_neg r sb h.b) h.some h.c
    (neg_weak r sd h.d) k.b_far k.a_far k.d_near k.c_near))

-- a vertex over a face, seen from above, or at its rim
pub vertex_apart : (p u v w : Vector) (s t : Bool) → Weak s (area (flat v) (flat w) (flat p)) → Weak s (area (flat w) (flat u) (flat p)) →
    Weak s (area (flat u) (flat v) (flat p)) →
    Signed s (area (flat v) (flat w) (flat p) +ℤ area (flat w) (flat u) (flat p) +ℤ area (flat u) (flat v) (flat p)) →
    Apart t p.z u.z → Apart t p.z v.z → Apart t p.z w.z → vertex_above p u v w ≡ t
vertex_apart p u v w s t hu hv hw some pu pv pw =
    above_signed s t (face_normal u v w) (height_over u v w p) (normal s (normal_is u.x u.y v.x v.y w.x w.y) some)
    (subst (λ (z : ℤ). Signed (like s t) z) (sym (face_height u v w p))
    (weighed_signs s t _ _ _ (p.z -ℤ u.z) (p.z -ℤ v.z) (p.z -ℤ w.z) hu hv hw some (higher t u.z pu) (higher t v.z pv) (higher t w.z pw)))
  where
    normal : (s : Bool) → (face_normal u v w).z ≡ area (flat u) (flat v) (flat w) →
        Signed s (area (flat v) (flat w) (flat p) +ℤ area (flat w) (flat u) (flat p) +ℤ area (flat u) (flat v) (flat p)) → Signed s (face_normal u v w).z
    normal true e h = rw e (omega (arith, ints))
    normal false e h = rw e (omega (arith, ints))

    higher : (t : Bool) (x : ℤ) → Apart t p.z x → Signed t (p.z -ℤ x)
    higher true x h = omega (arith, ints)
    higher false x h = omega (arith, ints)

-- and a face of P over a vertex of Q likewise
pub face_apart : (u v w q : Vector) (s t : Bool) → Weak s (area (flat v) (flat w) (flat q)) → Weak s (area (flat w) (flat u) (flat q)) → Weak s (area (flat u) (flat v) (flat q)) →
    Signed s (area (flat v) (flat w) (flat q) +ℤ area (flat w) (flat u) (flat q) +ℤ area (flat u) (flat v) (flat q)) →
    Apart t u.z q.z → Apart t v.z q.z → Apart t w.z q.z → face_above u v w q ≡ t
face_apart u v w q s t hu hv hw some pu pv pw =
    above_signed s t (face_normal u v w) (scalar (face_normal u v w) (way q u)) (normal s (normal_is u.x u.y v.x v.y w.x w.y) some)
    (subst (λ (z : ℤ). Signed (like s t) z)
    (sym (height_back u v w q ∙ ap neg_ℤ (face_height u v w q) ∙ back (area (flat v) (flat w) (flat q)) (area (flat w) (flat u) (flat q))
    (area (flat u) (flat v) (flat q)) q.z u.z v.z w.z))
    (weighed_signs s t _ _ _ (u.z -ℤ q.z) (v.z -ℤ q.z) (w.z -ℤ q.z) hu hv hw some (higher t u.z pu) (higher t v.z pv) (higher t w.z pw)))
  where
    normal : (s : Bool) → (face_normal u v w).z ≡ area (flat u) (flat v) (flat w) →
        Signed s (area (flat v) (flat w) (flat q) +ℤ area (flat w) (flat u) (flat q) +ℤ area (flat u) (flat v) (flat q)) → Signed s (face_normal u v w).z
    normal true e h = rw e (omega (arith, ints))
    normal false e h = rw e (omega (arith, ints))

    back : (k l m o x y z : ℤ) → neg_ℤ (k *ℤ (o -ℤ x) +ℤ l *ℤ (o -ℤ y) +ℤ m *ℤ (o -ℤ z)) ≡ k *ℤ (x -ℤ o) +ℤ l *ℤ (y -ℤ o) +ℤ m *ℤ (z -ℤ o)
    back k l m o x y z = simp spread (omega (arith, ints))

    higher : (t : Bool) (x : ℤ) → Apart t x q.z → Signed t (x -ℤ q.z)
    higher true x h = omega (arith, ints)
    higher false x h = omega (arith, ints)
