-- Four places seen from a fifth: at each of them the volumes opposite to the other three balance its areas with them.
use Rattle.std.specs.Prelude.{◌≡◌, ℤ, pos, neg_ℤ, ◌+ℤ◌, ◌-ℤ◌, ◌*ℤ◌}
use Rattle.std.proofs.Common.{arith, refl, ap, ◌∙◌}
use Rattle.std.proofs.lemmas.Int.{ints}
use Rattle.std.proofs.Math.IntN.{*ℤ_comm}
use Rattle.chain_laws.specs.Products.{product, mul-add, mul-sub, add-mul, sub-mul, mul-neg, neg-mul, mul-assoc}
use Rattle.plane_laws.specs.Areas.{Place, minor, exchanged}

-- the volume of three places seen from a fourth, by areas and heights
abbrev pub lifted : ℤ → ℤ → ℤ → ℤ → ℤ → ℤ → ℤ
lifted a b c h k l = a *ℤ h +ℤ b *ℤ k +ℤ c *ℤ l

-- a number times such a volume
times_lifted : (a b c h k l n : ℤ) → lifted a b c h k l *ℤ n ≡ h *ℤ (a *ℤ n) +ℤ k *ℤ (b *ℤ n) +ℤ l *ℤ (c *ℤ n)
times_lifted a b c h k l n = omega (arith, ints, add-mul (a *ℤ h +ℤ b *ℤ k) (c *ℤ l) n, add-mul (a *ℤ h) (b *ℤ k) n, one a h n, one b k n, one c l n) where
  one : (a h n : ℤ) → (a *ℤ h) *ℤ n ≡ h *ℤ (a *ℤ n)
  one a h n = rw (*ℤ_comm a h, mul-assoc h a n) refl

-- nothing times a number
nothing : (h : ℤ) → h *ℤ pos 0 ≡ pos 0
nothing h = omega (arith, ints, (product h (pos 0)).is)

-- what adds up to nothing does so times a number
two_gone : (h x y : ℤ) → x +ℤ y ≡ pos 0 → h *ℤ x +ℤ h *ℤ y ≡ pos 0
two_gone h x y e = omega (arith, ints, mul-add h x y, ap (λ (t : ℤ). h *ℤ t) e, nothing h)

-- the same of three numbers
three_gone : (h x y z : ℤ) → x +ℤ y +ℤ z ≡ pos 0 → h *ℤ x +ℤ h *ℤ y +ℤ h *ℤ z ≡ pos 0
three_gone h x y z e = omega (arith, ints, mul-add h (x +ℤ y) z, mul-add h x y, ap (λ (t : ℤ). h *ℤ t) e, nothing h)

-- three volumes at one place: the heights' factors cancel
corner : (h k1 k2 k3 b1 b2 b3 p1 p2 p3 q12 q13 q21 q23 q31 q32 v1 v2 v3 : ℤ) → v1 ≡ lifted p1 q12 q13 h k2 k3 → v2 ≡ lifted p2 q21 q23 h k1 k3 → v3 ≡ lifted p3 q31 q32 h k1 k2 →
    p1 *ℤ b1 +ℤ p2 *ℤ b2 +ℤ p3 *ℤ b3 ≡ pos 0 → q21 *ℤ b2 +ℤ q31 *ℤ b3 ≡ pos 0 → q12 *ℤ b1 +ℤ q32 *ℤ b3 ≡ pos 0 → q13 *ℤ b1 +ℤ q23 *ℤ b2 ≡ pos 0 →
    v1 *ℤ b1 +ℤ v2 *ℤ b2 +ℤ v3 *ℤ b3 ≡ pos 0
corner h k1 k2 k3 b1 b2 b3 p1 p2 p3 q12 q13 q21 q23 q31 q32 v1 v2 v3 e1 e2 e3 c d e f =
    rw (e1, e2, e3)
    (omega (
      arith,
      ints,
      times_lifted p1 q12 q13 h k2 k3 b1,
      times_lifted p2 q21 q23 h k1 k3 b2,
      times_lifted p3 q31 q32 h k1 k2 b3,
      three_gone h (p1 *ℤ b1) (p2 *ℤ b2) (p3 *ℤ b3) c,
      two_gone k1 (q21 *ℤ b2) (q31 *ℤ b3) d,
      two_gone k2 (q12 *ℤ b1) (q32 *ℤ b3) e,
      two_gone k3 (q13 *ℤ b1) (q23 *ℤ b2) f,
    ))

-- products that cancel
gone_second : (x y : ℤ) → x *ℤ neg_ℤ y +ℤ y *ℤ x ≡ pos 0
gone_second x y = omega (arith, ints, mul-neg x y, *ℤ_comm x y)

-- the first is turned
gone_first : (x y : ℤ) → neg_ℤ x *ℤ y +ℤ y *ℤ x ≡ pos 0
gone_first x y = omega (arith, ints, neg-mul x y, *ℤ_comm x y)

-- the second is turned in both
gone_twice : (x y : ℤ) → x *ℤ neg_ℤ y +ℤ neg_ℤ y *ℤ neg_ℤ x ≡ pos 0
gone_twice x y = omega (arith, ints, mul-neg x y, neg-mul y (neg_ℤ x), mul-neg y x, *ℤ_comm x y)

-- the first is turned in both, and the second in one
gone_both : (x y : ℤ) → neg_ℤ x *ℤ y +ℤ neg_ℤ y *ℤ neg_ℤ x ≡ pos 0
gone_both x y = omega (arith, ints, neg-mul x y, neg-mul y (neg_ℤ x), mul-neg y x, *ℤ_comm x y)

-- six areas and four volumes: those opposite to the places 1, 2 and 3 balance the areas at 0, and so on
pub record AreBalanced (a01 a02 a03 a12 a13 a23 v0 v1 v2 v3 : ℤ) : Type 0 where
  pub at0 : v1 *ℤ a01 +ℤ v2 *ℤ a02 +ℤ v3 *ℤ a03 ≡ pos 0
  pub at1 : v0 *ℤ a01 +ℤ v2 *ℤ neg_ℤ a12 +ℤ v3 *ℤ neg_ℤ a13 ≡ pos 0
  pub at2 : v0 *ℤ a02 +ℤ v1 *ℤ a12 +ℤ v3 *ℤ neg_ℤ a23 ≡ pos 0
  pub at3 : v0 *ℤ a03 +ℤ v1 *ℤ a13 +ℤ v2 *ℤ a23 ≡ pos 0

-- areas of a plane balance the volumes that heights give
pub balanced : (a01 a02 a03 a12 a13 a23 h0 h1 h2 h3 v0 v1 v2 v3 : ℤ) → a01 *ℤ a23 -ℤ a02 *ℤ a13 +ℤ a03 *ℤ a12 ≡ pos 0 → v0 ≡ lifted a23 (neg_ℤ a13) a12 h1 h2 h3 →
    v1 ≡ lifted (neg_ℤ a23) a03 (neg_ℤ a02) h0 h2 h3 → v2 ≡ lifted a13 (neg_ℤ a03) a01 h0 h1 h3 → v3 ≡ lifted (neg_ℤ a12) a02 (neg_ℤ a01) h0 h1 h2 →
    AreBalanced a01 a02 a03 a12 a13 a23 v0 v1 v2 v3
balanced a01 a02 a03 a12 a13 a23 h0 h1 h2 h3 v0 v1 v2 v3 e e0 e1 e2 e3 = record {
  at0 =
      corner h0 h1 h2 h3 a01 a02 a03 (neg_ℤ a23) a13 (neg_ℤ a12) a03 (neg_ℤ a02) (neg_ℤ a03) a01 a02 (neg_ℤ a01) v1 v2 v3 e1 e2 e3
      (omega (arith, ints, e, neg-mul a23 a01, neg-mul a12 a03, *ℤ_comm a23 a01, *ℤ_comm a13 a02, *ℤ_comm a12 a03)) (gone_first a03 a02)
      (omega (arith, ints, neg-mul a01 a03, *ℤ_comm a01 a03)) (gone_first a02 a01);
  at1 =
      corner h1 h0 h2 h3 a01 (neg_ℤ a12) (neg_ℤ a13) a23 (neg_ℤ a03) a02 (neg_ℤ a13) a12 a13 a01 (neg_ℤ a12) (neg_ℤ a01) v0 v2 v3 e0
      (omega (arith, ints, e2)) (omega (arith, ints, e3))
      (omega (arith, ints, e, *ℤ_comm a23 a01, neg-mul a03 (neg_ℤ a12), mul-neg a03 a12, mul-neg a02 a13)) (gone_twice a13 a12) (gone_both a13 a01)
      (omega (arith, ints, mul-neg a01 a12, *ℤ_comm a12 a01));
  at2 =
      corner h2 h0 h1 h3 a02 a12 (neg_ℤ a23) (neg_ℤ a13) a03 (neg_ℤ a01) a23 a12 (neg_ℤ a23) (neg_ℤ a02) (neg_ℤ a12) a02 v0 v1 v3
      (omega (arith, ints, e0)) (omega (arith, ints, e1)) (omega (arith, ints, e3))
      (omega (arith, ints, e, neg-mul a13 a02, *ℤ_comm a13 a02, neg-mul a01 (neg_ℤ a23), mul-neg a01 a23))
      (omega (arith, ints, neg-mul a23 a12, neg-mul a12 (neg_ℤ a23), mul-neg a12 a23, *ℤ_comm a23 a12))
      (omega (arith, ints, mul-neg a02 a23, *ℤ_comm a02 a23)) (omega (arith, ints, neg-mul a02 a12, *ℤ_comm a12 a02));
  at3 =
      corner h3 h0 h1 h2 a03 a13 a23 a12 (neg_ℤ a02) a01 a23 (neg_ℤ a13) (neg_ℤ a23) a03 a13 (neg_ℤ a03) v0 v1 v2
      (omega (arith, ints, e0)) (omega (arith, ints, e1)) (omega (arith, ints, e2))
      (omega (arith, ints, e, *ℤ_comm a12 a03, neg-mul a02 a13)) (gone_first a23 a13) (omega (arith, ints, neg-mul a03 a23, *ℤ_comm a23 a03)) (gone_first a13 a03);
}

-- and distances in x that balance the areas of each face balance the volumes
pub distances : (a01 a02 a03 a12 a13 a23 h0 h1 h2 h3 v0 v1 v2 v3 x0 x1 x2 x3 : ℤ) → v0 ≡ lifted a23 (neg_ℤ a13) a12 h1 h2 h3 → v1 ≡ lifted (neg_ℤ a23) a03 (neg_ℤ a02) h0 h2 h3 →
    v2 ≡ lifted a13 (neg_ℤ a03) a01 h0 h1 h3 → v3 ≡ lifted (neg_ℤ a12) a02 (neg_ℤ a01) h0 h1 h2 → x3 *ℤ a12 +ℤ x1 *ℤ a23 +ℤ x2 *ℤ neg_ℤ a13 ≡ pos 0 →
    x2 *ℤ a03 +ℤ x0 *ℤ neg_ℤ a23 +ℤ x3 *ℤ neg_ℤ a02 ≡ pos 0 → x3 *ℤ a01 +ℤ x0 *ℤ a13 +ℤ x1 *ℤ neg_ℤ a03 ≡ pos 0 → x1 *ℤ a02 +ℤ x0 *ℤ neg_ℤ a12 +ℤ x2 *ℤ neg_ℤ a01 ≡ pos 0 →
    v0 *ℤ x0 +ℤ v1 *ℤ x1 +ℤ v2 *ℤ x2 +ℤ v3 *ℤ x3 ≡ pos 0
distances a01 a02 a03 a12 a13 a23 h0 h1 h2 h3 v0 v1 v2 v3 x0 x1 x2 x3 e0 e1 e2 e3 p0 p1 p2 p3 =
    rw (e0, e1, e2, e3)
    (omega (
      arith,
      ints,
      times_lifted a23 (neg_ℤ a13) a12 h1 h2 h3 x0,
      times_lifted (neg_ℤ a23) a03 (neg_ℤ a02) h0 h2 h3 x1,
      times_lifted a13 (neg_ℤ a03) a01 h0 h1 h3 x2,
      times_lifted (neg_ℤ a12) a02 (neg_ℤ a01) h0 h1 h2 x3,
      three_gone h0 (neg_ℤ a23 *ℤ x1) (a13 *ℤ x2) (neg_ℤ a12 *ℤ x3)
          (omega (arith, ints, p0, neg-mul a23 x1, neg-mul a12 x3, mul-neg x2 a13, *ℤ_comm a23 x1, *ℤ_comm a13 x2, *ℤ_comm a12 x3)),
      three_gone h1 (a23 *ℤ x0) (neg_ℤ a03 *ℤ x2) (a02 *ℤ x3)
          (omega (arith, ints, p1, neg-mul a03 x2, mul-neg x0 a23, mul-neg x3 a02, *ℤ_comm a23 x0, *ℤ_comm a03 x2, *ℤ_comm a02 x3)),
      three_gone h2 (neg_ℤ a13 *ℤ x0) (a03 *ℤ x1) (neg_ℤ a01 *ℤ x3)
          (omega (arith, ints, p2, neg-mul a13 x0, neg-mul a01 x3, mul-neg x1 a03, *ℤ_comm a13 x0, *ℤ_comm a03 x1, *ℤ_comm a01 x3)),
      three_gone h3 (a12 *ℤ x0) (neg_ℤ a02 *ℤ x1) (a01 *ℤ x2)
          (omega (arith, ints, p3, neg-mul a02 x1, mul-neg x0 a12, mul-neg x2 a01, *ℤ_comm a12 x0, *ℤ_comm a02 x1, *ℤ_comm a01 x2)),
    ))

-- two heights in two volumes
pair : (a h k : ℤ) → h *ℤ (a *ℤ k) +ℤ k *ℤ (neg_ℤ a *ℤ h) ≡ pos 0
pair a h k =
    let left : h *ℤ (a *ℤ k) ≡ a *ℤ (h *ℤ k) = exchanged h a k in
    let right : k *ℤ (neg_ℤ a *ℤ h) ≡ neg_ℤ (a *ℤ (h *ℤ k)) = ap (λ (t : ℤ). k *ℤ t) (neg-mul a h) ∙ mul-neg k (a *ℤ h) ∙ ap neg_ℤ
    (exchanged k a h ∙ ap (λ (t : ℤ). a *ℤ t) (*ℤ_comm k h)) in
    omega (arith, ints, left, right)

-- and so do heights
pub heights : (a01 a02 a03 a12 a13 a23 h0 h1 h2 h3 v0 v1 v2 v3 k0 k1 k2 k3 : ℤ) → v0 ≡ lifted a23 (neg_ℤ a13) a12 h1 h2 h3 → v1 ≡ lifted (neg_ℤ a23) a03 (neg_ℤ a02) h0 h2 h3 →
    v2 ≡ lifted a13 (neg_ℤ a03) a01 h0 h1 h3 → v3 ≡ lifted (neg_ℤ a12) a02 (neg_ℤ a01) h0 h1 h2 → k0 ≡ neg_ℤ h0 → k1 ≡ neg_ℤ h1 → k2 ≡ neg_ℤ h2 → k3 ≡ neg_ℤ h3 →
    v0 *ℤ k0 +ℤ v1 *ℤ k1 +ℤ v2 *ℤ k2 +ℤ v3 *ℤ k3 ≡ pos 0
heights a01 a02 a03 a12 a13 a23 h0 h1 h2 h3 v0 v1 v2 v3 k0 k1 k2 k3 e0 e1 e2 e3 f0 f1 f2 f3 =
    rw (f0, f1, f2, f3)
    (added (v0 *ℤ neg_ℤ h0) (v1 *ℤ neg_ℤ h1) (v2 *ℤ neg_ℤ h2) (v3 *ℤ neg_ℤ h3) (v0 *ℤ h0) (v1 *ℤ h1) (v2 *ℤ h2) (v3 *ℤ h3) (h1 *ℤ (a23 *ℤ h0)) (h0 *ℤ (neg_ℤ a23 *ℤ h1))
    (h0 *ℤ (a13 *ℤ h2)) (h2 *ℤ (neg_ℤ a13 *ℤ h0)) (h3 *ℤ (a12 *ℤ h0)) (h0 *ℤ (neg_ℤ a12 *ℤ h3)) (h2 *ℤ (a03 *ℤ h1)) (h1 *ℤ (neg_ℤ a03 *ℤ h2)) (h1 *ℤ (a02 *ℤ h3))
    (h3 *ℤ (neg_ℤ a02 *ℤ h1)) (h3 *ℤ (a01 *ℤ h2)) (h2 *ℤ (neg_ℤ a01 *ℤ h3))
    (mul-neg v0 h0) (mul-neg v1 h1) (mul-neg v2 h2) (mul-neg v3 h3)
    (ap (λ (t : ℤ). t *ℤ h0) e0 ∙ times_lifted a23 (neg_ℤ a13) a12 h1 h2 h3 h0)
    (ap (λ (t : ℤ). t *ℤ h1) e1 ∙ times_lifted (neg_ℤ a23) a03 (neg_ℤ a02) h0 h2 h3 h1)
    (ap (λ (t : ℤ). t *ℤ h2) e2 ∙ times_lifted a13 (neg_ℤ a03) a01 h0 h1 h3 h2)
    (ap (λ (t : ℤ). t *ℤ h3) e3 ∙ times_lifted (neg_ℤ a12) a02 (neg_ℤ a01) h0 h1 h2 h3)
    (pair a23 h1 h0) (pair a13 h0 h2) (pair a12 h3 h0) (pair a03 h2 h1) (pair a02 h1 h3) (pair a01 h3 h2))
  where
    added : (m0 m1 m2 m3 w0 w1 w2 w3 p23 q23 p13 q13 p12 q12 p03 q03 p02 q02 p01 q01 : ℤ) → m0 ≡ neg_ℤ w0 → m1 ≡ neg_ℤ w1 → m2 ≡ neg_ℤ w2 → m3 ≡ neg_ℤ w3 →
        w0 ≡ p23 +ℤ q13 +ℤ p12 → w1 ≡ q23 +ℤ p03 +ℤ q02 → w2 ≡ p13 +ℤ q03 +ℤ p01 → w3 ≡ q12 +ℤ p02 +ℤ q01 →
        p23 +ℤ q23 ≡ pos 0 → p13 +ℤ q13 ≡ pos 0 → p12 +ℤ q12 ≡ pos 0 → p03 +ℤ q03 ≡ pos 0 → p02 +ℤ q02 ≡ pos 0 → p01 +ℤ q01 ≡ pos 0 → m0 +ℤ m1 +ℤ m2 +ℤ m3 ≡ pos 0
    added m0 m1 m2 m3 w0 w1 w2 w3 p23 q23 p13 q13 p12 q12 p03 q03 p02 q02 p01 q01 a0 a1 a2 a3 b0 b1 b2 b3 c1 c2 c3 c4 c5 c6 = omega (arith, ints)

-- four numbers in two products, the second and the last exchanged
swapped : (a b c d : ℤ) → (a *ℤ b) *ℤ (c *ℤ d) ≡ (a *ℤ d) *ℤ (c *ℤ b)
swapped a b c d = rw (mul-assoc a b (c *ℤ d), mul-assoc a d (c *ℤ b), exchanged b c d, exchanged d c b, *ℤ_comm b d) refl

-- the product of two minors
minors : (s t u v : Place) → minor s t *ℤ minor u v ≡ (s.x *ℤ t.y) *ℤ (u.x *ℤ v.y) -ℤ (s.x *ℤ t.y) *ℤ (v.x *ℤ u.y) -ℤ (t.x *ℤ s.y) *ℤ (u.x *ℤ v.y) +ℤ (t.x *ℤ s.y) *ℤ (v.x *ℤ u.y)
minors s t u v =
    omega (
      arith,
      ints,
      sub-mul (s.x *ℤ t.y) (t.x *ℤ s.y) (minor u v),
      mul-sub (s.x *ℤ t.y) (u.x *ℤ v.y) (v.x *ℤ u.y),
      mul-sub (t.x *ℤ s.y) (u.x *ℤ v.y) (v.x *ℤ u.y),
    )

-- the relation of the minors of four places
pub minors_balance : (a b c d : Place) → minor a b *ℤ minor c d -ℤ minor a c *ℤ minor b d +ℤ minor a d *ℤ minor b c ≡ pos 0
minors_balance a b c d =
    omega (
      arith,
      ints,
      minors a b c d,
      minors a c b d,
      minors a d b c,
      swapped a.x b.y c.x d.y,
      swapped a.x b.y d.x c.y,
      swapped b.x a.y c.x d.y,
      swapped b.x a.y d.x c.y,
      swapped a.x c.y b.x d.y,
      swapped c.x a.y b.x d.y,
      swapped c.x a.y d.x b.y,
      swapped d.x a.y b.x c.y,
      swapped d.x a.y c.x b.y,
      *ℤ_comm (b.x *ℤ d.y) (c.x *ℤ a.y),
      *ℤ_comm (b.x *ℤ c.y) (d.x *ℤ a.y),
      *ℤ_comm (c.x *ℤ b.y) (d.x *ℤ a.y),
      *ℤ_comm (c.x *ℤ d.y) (b.x *ℤ a.y),
      *ℤ_comm (d.x *ℤ c.y) (b.x *ℤ a.y),
      *ℤ_comm (d.x *ℤ b.y) (c.x *ℤ a.y),
    )
