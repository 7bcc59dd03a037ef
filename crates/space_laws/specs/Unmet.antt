-- Where the vertical line through a vertex meets no face of a tetrahedron, the vertex isn't inside.
use Rattle.std.specs.Prelude.{◌≡◌, ℤ, pos, neg_ℤ, ◌+ℤ◌, ◌*ℤ◌, Bool, true, false}
use Rattle.std.proofs.Common.{arith, refl, subst}
use Rattle.std.proofs.lemmas.Int.{ints}
use Rattle.chain_laws.specs.Products.{mul-neg}
use Rattle.plane_laws.specs.Signs.{Signed, like, signed_mul}
use Rattle.plane_laws.specs.Bits.{bit}
use Rattle.space_laws.specs.Balance.{AreBalanced}
use Rattle.space_laws.specs.Edges.{Turned, EdgeOf, turned_back}
use Rattle.space_laws.specs.Met.{not_alike, area_seen}

-- bits that are equal as numbers
same_bit : (s t : Bool) → bit s ≡ bit t → s ≡ t
same_bit true true e = refl
same_bit false false e = refl
same_bit true false e = absurd (omega (arith, ints, e))
same_bit false true e = absurd (omega (arith, ints, e))

-- an area with the sign of another, where the shadows are equal
same_side : (a b ea eb k : ℤ) → (h : Turned a ea k) → (g : Turned b eb k) → ea ≡ eb → Signed h.side b
same_side a b ea eb k h g e = subst (λ (s : Bool). Signed s b) (same_bit g.side h.side (omega (arith, ints, h.value, g.value, e))) g.sign

-- a corner alone on its side
pub single : (s : Bool) (x y z a b c ea eb ec k : ℤ) → x *ℤ a +ℤ y *ℤ b +ℤ z *ℤ c ≡ pos 0 → Signed s x → Signed s y → Signed s z →
    Turned a ea k → Turned b eb k → Turned c ec k → ea ≡ eb → ea ≡ ec → ⊥
single s x y z a b c ea eb ec k e hx hy hz f g h i j = not_alike s f.side x y z a b c e hx hy hz f.sign (same_side a b ea eb k f g i) (same_side a c ea ec k f h j)

-- two corners on each side
pub double : (s : Bool) (x0 x1 x2 x3 a p q y z ep eq ey ez k : ℤ) → x1 *ℤ a +ℤ x2 *ℤ p +ℤ x3 *ℤ q ≡ pos 0 → x0 *ℤ a +ℤ x2 *ℤ neg_ℤ y +ℤ x3 *ℤ neg_ℤ z ≡ pos 0 →
    Signed s x0 → Signed s x1 → Signed s x2 → Signed s x3 → Turned p ep k → Turned q eq k → Turned y ey k → Turned z ez k → ep ≡ eq → ep ≡ ey → ep ≡ ez → ⊥
double s x0 x1 x2 x3 a p q y z ep eq ey ez k e d h0 h1 h2 h3 tp tq ty tz i j l =
    by tp.side tp.sign (same_side p q ep eq k tp tq i) (same_side p y ep ey k tp ty j) (same_side p z ep ez k tp tz l) where
      by : (r : Bool) → Signed r p → Signed r q → Signed r y → Signed r z → ⊥
      by true hp hq hy hz =
          not_alike s false x0 x2 x3 a (neg_ℤ y) (neg_ℤ z) d h0 h2 h3 (area_seen s true x2 x3 x1 p q a (omega (arith, ints, e)) h2 h3 h1 hp hq) (omega (arith, ints, hy))
          (omega (arith, ints, hz))
      by false hp hq hy hz =
          not_alike s true x0 x2 x3 a (neg_ℤ y) (neg_ℤ z) d h0 h2 h3 (area_seen s false x2 x3 x1 p q a (omega (arith, ints, e)) h2 h3 h1 hp hq) (omega (arith, ints, hy))
          (omega (arith, ints, hz))

-- four distances of one sign
pub one_side : (s r : Bool) (v0 v1 v2 v3 x0 x1 x2 x3 : ℤ) → v0 *ℤ x0 +ℤ v1 *ℤ x1 +ℤ v2 *ℤ x2 +ℤ v3 *ℤ x3 ≡ pos 0 → Signed s v0 → Signed s v1 → Signed s v2 → Signed s v3 →
    Signed r x0 → Signed r x1 → Signed r x2 → Signed r x3 → ⊥
one_side s r v0 v1 v2 v3 x0 x1 x2 x3 e h0 h1 h2 h3 k0 k1 k2 k3 =
    by (like s r) (v0 *ℤ x0) (v1 *ℤ x1) (v2 *ℤ x2) (v3 *ℤ x3) e (signed_mul s r v0 x0 h0 k0) (signed_mul s r v1 x1 h1 k1) (signed_mul s r v2 x2 h2 k2)
    (signed_mul s r v3 x3 h3 k3) where
      by : (t : Bool) (a b c d : ℤ) → a +ℤ b +ℤ c +ℤ d ≡ pos 0 → Signed t a → Signed t b → Signed t c → Signed t d → ⊥
      by true a b c d e h i j k = omega (arith, ints)
      by false a b c d e h i j k = omega (arith, ints)

module _ {a01 a02 a03 a12 a13 a23 v0 v1 v2 v3 : ℤ} (x0 x1 x2 x3 e01 e02 e03 e12 e13 e23 : ℤ) (b : AreBalanced a01 a02 a03 a12 a13 a23 v0 v1 v2 v3)
    (d : v0 *ℤ x0 +ℤ v1 *ℤ x1 +ℤ v2 *ℤ x2 +ℤ v3 *ℤ x3 ≡ pos 0) where
  -- if no count is other than 0, the volumes don't have one sign
  pub none_met : (s b0 b1 b2 b3 : Bool) → Signed b0 x0 → Signed b1 x1 → Signed b2 x2 → Signed b3 x3 →
      EdgeOf b0 b1 a01 e01 → EdgeOf b0 b2 a02 e02 → EdgeOf b0 b3 a03 e03 → EdgeOf b1 b2 a12 e12 → EdgeOf b1 b3 a13 e13 → EdgeOf b2 b3 a23 e23 →
      e12 +ℤ e23 +ℤ neg_ℤ e13 ≡ pos 0 → e03 +ℤ neg_ℤ e23 +ℤ neg_ℤ e02 ≡ pos 0 → e01 +ℤ e13 +ℤ neg_ℤ e03 ≡ pos 0 → e02 +ℤ neg_ℤ e12 +ℤ neg_ℤ e01 ≡ pos 0 →
      Signed s v0 → Signed s v1 → Signed s v2 → Signed s v3 → ⊥
  none_met s true true true true k0 k1 k2 k3 f01 f02 f03 f12 f13 f23 n0 n1 n2 n3 h0 h1 h2 h3 =
      one_side s true v0 v1 v2 v3 x0 x1 x2 x3 d h0 h1 h2 h3 k0 k1 k2 k3
  none_met s true true true false k0 k1 k2 k3 f01 f02 f03 f12 f13 f23 n0 n1 n2 n3 h0 h1 h2 h3 =
      single s v0 v1 v2 a03 a13 a23 e03 e13 e23 (pos 0) b.at3 h0 h1 h2 f03 f13 f23 (omega (arith, ints, n0, n1, n2, n3, f01, f02, f12))
      (omega (arith, ints, n0, n1, n2, n3, f01, f02, f12))
  none_met s true true false true k0 k1 k2 k3 f01 f02 f03 f12 f13 f23 n0 n1 n2 n3 h0 h1 h2 h3 =
      single s v0 v1 v3 a02 a12 (neg_ℤ a23) e02 e12 (neg_ℤ e23) (pos 0) b.at2 h0 h1 h3 f02 f12 (turned_back a23 e23 (pos 1) (pos 0) refl f23)
      (omega (arith, ints, n0, n1, n2, n3, f01, f03, f13)) (omega (arith, ints, n0, n1, n2, n3, f01, f03, f13))
  none_met s true true false false k0 k1 k2 k3 f01 f02 f03 f12 f13 f23 n0 n1 n2 n3 h0 h1 h2 h3 =
      double s v0 v1 v2 v3 a01 a02 a03 a12 a13 e02 e03 e12 e13 (pos 0)
      b.at0 b.at1 h0 h1 h2 h3 f02 f03 f12 f13 (omega (arith, ints, n0, n1, n2, n3, f01, f23)) (omega (arith, ints, n0, n1, n2, n3, f01, f23))
      (omega (arith, ints, n0, n1, n2, n3, f01, f23))
  none_met s true false true true k0 k1 k2 k3 f01 f02 f03 f12 f13 f23 n0 n1 n2 n3 h0 h1 h2 h3 =
      single s v0 v2 v3 a01 (neg_ℤ a12) (neg_ℤ a13) e01 (neg_ℤ e12) (neg_ℤ e13) (pos 0) b.at1 h0 h2 h3 f01 (turned_back a12 e12 (pos 1) (pos 0) refl f12)
      (turned_back a13 e13 (pos 1) (pos 0) refl f13) (omega (arith, ints, n0, n1, n2, n3, f02, f03, f23)) (omega (arith, ints, n0, n1, n2, n3, f02, f03, f23))
  none_met s true false true false k0 k1 k2 k3 f01 f02 f03 f12 f13 f23 n0 n1 n2 n3 h0 h1 h2 h3 =
      double s v0 v2 v1 v3 a02 a01 a03 (neg_ℤ a12) a23 e01 e03 (neg_ℤ e12) e23 (pos 0)
      (omega (arith, ints, b.at0)) (omega (arith, ints, b.at2, mul-neg v1 (neg_ℤ a12), mul-neg v1 a12)) h0 h2 h1 h3 f01 f03 (turned_back a12 e12 (pos 1) (pos 0) refl f12)
      f23 (omega (arith, ints, n0, n1, n2, n3, f02, f13)) (omega (arith, ints, n0, n1, n2, n3, f02, f13)) (omega (arith, ints, n0, n1, n2, n3, f02, f13))
  none_met s true false false true k0 k1 k2 k3 f01 f02 f03 f12 f13 f23 n0 n1 n2 n3 h0 h1 h2 h3 =
      double s v0 v3 v1 v2 a03 a01 a02 (neg_ℤ a13) (neg_ℤ a23) e01 e02 (neg_ℤ e13) (neg_ℤ e23) (pos 0)
      (omega (arith, ints, b.at0)) (omega (arith, ints, b.at3, mul-neg v1 (neg_ℤ a13), mul-neg v1 a13, mul-neg v2 (neg_ℤ a23), mul-neg v2 a23)) h0 h3 h1 h2 f01 f02
      (turned_back a13 e13 (pos 1) (pos 0) refl f13) (turned_back a23 e23 (pos 1) (pos 0) refl f23) (omega (arith, ints, n0, n1, n2, n3, f03, f12))
      (omega (arith, ints, n0, n1, n2, n3, f03, f12)) (omega (arith, ints, n0, n1, n2, n3, f03, f12))
  none_met s true false false false k0 k1 k2 k3 f01 f02 f03 f12 f13 f23 n0 n1 n2 n3 h0 h1 h2 h3 =
      single s v1 v2 v3 a01 a02 a03 e01 e02 e03 (pos 0) b.at0 h1 h2 h3 f01 f02 f03 (omega (arith, ints, n0, n1, n2, n3, f12, f13, f23))
      (omega (arith, ints, n0, n1, n2, n3, f12, f13, f23))
  none_met s false true true true k0 k1 k2 k3 f01 f02 f03 f12 f13 f23 n0 n1 n2 n3 h0 h1 h2 h3 =
      single s v1 v2 v3 a01 a02 a03 e01 e02 e03 (pos 1) b.at0 h1 h2 h3 f01 f02 f03 (omega (arith, ints, n0, n1, n2, n3, f12, f13, f23))
      (omega (arith, ints, n0, n1, n2, n3, f12, f13, f23))
  none_met s false true true false k0 k1 k2 k3 f01 f02 f03 f12 f13 f23 n0 n1 n2 n3 h0 h1 h2 h3 =
      double s v0 v3 v1 v2 a03 a01 a02 (neg_ℤ a13) (neg_ℤ a23) e01 e02 (neg_ℤ e13) (neg_ℤ e23) (pos 1)
      (omega (arith, ints, b.at0)) (omega (arith, ints, b.at3, mul-neg v1 (neg_ℤ a13), mul-neg v1 a13, mul-neg v2 (neg_ℤ a23), mul-neg v2 a23)) h0 h3 h1 h2 f01 f02
      (turned_back a13 e13 (pos 0) (pos 1) refl f13) (turned_back a23 e23 (pos 0) (pos 1) refl f23) (omega (arith, ints, n0, n1, n2, n3, f03, f12))
      (omega (arith, ints, n0, n1, n2, n3, f03, f12)) (omega (arith, ints, n0, n1, n2, n3, f03, f12))
  none_met s false true false true k0 k1 k2 k3 f01 f02 f03 f12 f13 f23 n0 n1 n2 n3 h0 h1 h2 h3 =
      double s v0 v2 v1 v3 a02 a01 a03 (neg_ℤ a12) a23 e01 e03 (neg_ℤ e12) e23 (pos 1)
      (omega (arith, ints, b.at0)) (omega (arith, ints, b.at2, mul-neg v1 (neg_ℤ a12), mul-neg v1 a12)) h0 h2 h1 h3 f01 f03 (turned_back a12 e12 (pos 0) (pos 1) refl f12)
      f23 (omega (arith, ints, n0, n1, n2, n3, f02, f13)) (omega (arith, ints, n0, n1, n2, n3, f02, f13)) (omega (arith, ints, n0, n1, n2, n3, f02, f13))
  none_met s false true false false k0 k1 k2 k3 f01 f02 f03 f12 f13 f23 n0 n1 n2 n3 h0 h1 h2 h3 =
      single s v0 v2 v3 a01 (neg_ℤ a12) (neg_ℤ a13) e01 (neg_ℤ e12) (neg_ℤ e13) (pos 1) b.at1 h0 h2 h3 f01 (turned_back a12 e12 (pos 0) (pos 1) refl f12)
      (turned_back a13 e13 (pos 0) (pos 1) refl f13) (omega (arith, ints, n0, n1, n2, n3, f02, f03, f23)) (omega (arith, ints, n0, n1, n2, n3, f02, f03, f23))
  none_met s false false true true k0 k1 k2 k3 f01 f02 f03 f12 f13 f23 n0 n1 n2 n3 h0 h1 h2 h3 =
      double s v0 v1 v2 v3 a01 a02 a03 a12 a13 e02 e03 e12 e13 (pos 1)
      b.at0 b.at1 h0 h1 h2 h3 f02 f03 f12 f13 (omega (arith, ints, n0, n1, n2, n3, f01, f23)) (omega (arith, ints, n0, n1, n2, n3, f01, f23))
      (omega (arith, ints, n0, n1, n2, n3, f01, f23))
  none_met s false false true false k0 k1 k2 k3 f01 f02 f03 f12 f13 f23 n0 n1 n2 n3 h0 h1 h2 h3 =
      single s v0 v1 v3 a02 a12 (neg_ℤ a23) e02 e12 (neg_ℤ e23) (pos 1) b.at2 h0 h1 h3 f02 f12 (turned_back a23 e23 (pos 0) (pos 1) refl f23)
      (omega (arith, ints, n0, n1, n2, n3, f01, f03, f13)) (omega (arith, ints, n0, n1, n2, n3, f01, f03, f13))
  none_met s false false false true k0 k1 k2 k3 f01 f02 f03 f12 f13 f23 n0 n1 n2 n3 h0 h1 h2 h3 =
      single s v0 v1 v2 a03 a13 a23 e03 e13 e23 (pos 1) b.at3 h0 h1 h2 f03 f13 f23 (omega (arith, ints, n0, n1, n2, n3, f01, f02, f12))
      (omega (arith, ints, n0, n1, n2, n3, f01, f02, f12))
  none_met s false false false false k0 k1 k2 k3 f01 f02 f03 f12 f13 f23 n0 n1 n2 n3 h0 h1 h2 h3 =
      one_side s false v0 v1 v2 v3 x0 x1 x2 x3 d h0 h1 h2 h3 k0 k1 k2 k3
