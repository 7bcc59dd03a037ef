-- Areas and volumes of places in space balance.
use Rattle.std.specs.Prelude.{◌≡◌, ℤ, pos, neg_ℤ, ◌+ℤ◌, ◌-ℤ◌, ◌*ℤ◌}
use Rattle.std.proofs.Common.{arith, sym, ap, subst, ◌∙◌}
use Rattle.std.proofs.lemmas.Int.{ints}
use Rattle.std.proofs.Math.IntN.{*ℤ_comm}
use Rattle.chain_laws.specs.Products.{add-mul, mul-sub, sub-mul, mul-neg, neg-mul}
use Rattle.plane_laws.specs.Areas.{Place, minor, area, area_is}
use Rattle.plane_laws.specs.Decisions.{Vector, way, scalar, face_normal}
use Rattle.plane_laws.specs.Heights.{flat, face_height}
use Rattle.plane_laws.specs.Excluded.{face_balance}
use Rattle.solid_terms.specs.Solids.{volume}
use Rattle.space_laws.specs.Balance.{lifted, AreBalanced, balanced, distances, heights, minors_balance}

-- the scalar product with the way back
scalar_back : (n p u : Vector) → scalar n (way p u) ≡ neg_ℤ (scalar n (way u p))
scalar_back n p u = omega (arith, ints, mul-sub n.x u.x p.x, mul-sub n.x p.x u.x, mul-sub n.y u.y p.y, mul-sub n.y p.y u.y, mul-sub n.z u.z p.z, mul-sub n.z p.z u.z)

-- a height the other way round
turned_height : (a h k : ℤ) → a *ℤ (h -ℤ k) ≡ neg_ℤ (a *ℤ (k -ℤ h))
turned_height a h k = omega (arith, ints, mul-sub a h k, mul-sub a k h)

-- the volume by areas and heights
pub volume_is : (p u v t : Vector) → volume p u v t
    ≡ lifted (area (flat v) (flat t) (flat p)) (area (flat t) (flat u) (flat p)) (area (flat u) (flat v) (flat p)) (u.z -ℤ p.z) (v.z -ℤ p.z) (t.z -ℤ p.z)
volume_is p u v t =
    scalar_back (face_normal u v t) p u ∙ ap neg_ℤ (face_height u v t p)
    ∙ by (area (flat v) (flat t) (flat p)) (area (flat t) (flat u) (flat p)) (area (flat u) (flat v) (flat p)) p.z u.z v.z t.z
  where
    by : (a b c p u v t : ℤ) → neg_ℤ (a *ℤ (p -ℤ u) +ℤ b *ℤ (p -ℤ v) +ℤ c *ℤ (p -ℤ t)) ≡ lifted a b c (u -ℤ p) (v -ℤ p) (t -ℤ p)
    by a b c p u v t = omega (arith, ints, turned_height a u p, turned_height b v p, turned_height c t p)

-- a place seen from another
seen_from : Place → Place → Place
seen_from p s = record { x = s.x -ℤ p.x; y = s.y -ℤ p.y }

-- an area is a minor
area_minor : (s t p : Place) → area s t p ≡ minor (seen_from p s) (seen_from p t)
unfolding seen_from
area_minor s t p = omega (arith, ints, area_is p s t)

-- an area turned
area_turned : (s t p : Place) → area t s p ≡ neg_ℤ (area s t p)
area_turned s t p = omega (arith, ints)

-- the areas of four places, seen from a fifth
pub areas_relate : (p q0 q1 q2 q3 : Place) → area q0 q1 p *ℤ area q2 q3 p -ℤ area q0 q2 p *ℤ area q1 q3 p +ℤ area q0 q3 p *ℤ area q1 q2 p ≡ pos 0
areas_relate p q0 q1 q2 q3 =
    rw (area_minor q0 q1 p, area_minor q2 q3 p, area_minor q0 q2 p, area_minor q1 q3 p, area_minor q0 q3 p, area_minor q1 q2 p)
    (minors_balance (seen_from p q0) (seen_from p q1) (seen_from p q2) (seen_from p q3))

-- the balance of a face, by areas named by ascending numbers
pub face_012 : (p u v t : Place) → (p.x -ℤ t.x) *ℤ area u v p +ℤ (p.x -ℤ u.x) *ℤ area v t p +ℤ (p.x -ℤ v.x) *ℤ neg_ℤ (area u t p) ≡ pos 0
face_012 p u v t =
    subst (λ (z : ℤ). (p.x -ℤ t.x) *ℤ area u v p +ℤ (p.x -ℤ u.x) *ℤ area v t p +ℤ (p.x -ℤ v.x) *ℤ z ≡ pos 0) (area_turned u t p) (face_balance u v t p)

-- and where the last two are exchanged
pub face_021 : (p u v t : Place) → (p.x -ℤ v.x) *ℤ area u t p +ℤ (p.x -ℤ u.x) *ℤ neg_ℤ (area v t p) +ℤ (p.x -ℤ t.x) *ℤ neg_ℤ (area u v p) ≡ pos 0
face_021 p u v t =
    subst (λ (z : ℤ). (p.x -ℤ v.x) *ℤ area u t p +ℤ (p.x -ℤ u.x) *ℤ z +ℤ (p.x -ℤ t.x) *ℤ neg_ℤ (area u v p) ≡ pos 0) (area_turned v t p) (face_012 p u t v)

-- a volume by areas named by ascending numbers
volume_012 : (p u v t : Vector) → volume p u v t ≡ lifted (area (flat v) (flat t) (flat p)) (neg_ℤ (area (flat u) (flat t) (flat p))) (area (flat u) (flat v) (flat p))
    (u.z -ℤ p.z) (v.z -ℤ p.z) (t.z -ℤ p.z)
volume_012 p u v t =
    volume_is p u v t
    ∙ ap (λ (z : ℤ). lifted (area (flat v) (flat t) (flat p)) z (area (flat u) (flat v) (flat p)) (u.z -ℤ p.z) (v.z -ℤ p.z) (t.z -ℤ p.z)) (area_turned (flat u) (flat t) (flat p))

-- the same where the last two are exchanged
volume_021 : (p u v t : Vector) → volume p u t v ≡ lifted (neg_ℤ (area (flat v) (flat t) (flat p))) (area (flat u) (flat t) (flat p))
    (neg_ℤ (area (flat u) (flat v) (flat p))) (u.z -ℤ p.z) (v.z -ℤ p.z) (t.z -ℤ p.z)
volume_021 p u v t =
    volume_is p u t v
    ∙ by (area (flat v) (flat t) (flat p)) (area (flat t) (flat v) (flat p)) (area (flat u) (flat t) (flat p)) (area (flat u) (flat v) (flat p))
    (area (flat v) (flat u) (flat p)) (u.z -ℤ p.z) (v.z -ℤ p.z) (t.z -ℤ p.z)
    (area_turned (flat v) (flat t) (flat p)) (area_turned (flat u) (flat v) (flat p))
  where
    by : (a a' b c c' h k l : ℤ) → a' ≡ neg_ℤ a → c' ≡ neg_ℤ c → lifted a' c' b h l k ≡ lifted (neg_ℤ a) b (neg_ℤ c) h k l
    by a a' b c c' h k l e f = rw (e, f) (omega (arith, ints))

-- x and y exchanged
swap : Place → Place
swap s = record { x = s.y; y = s.x }

-- areas turn where x and y are exchanged
area_swapped : (s t v : Place) → area (swap s) (swap t) (swap v) ≡ neg_ℤ (area s t v)
unfolding swap
area_swapped s t v = omega (arith, ints, *ℤ_comm s.y t.x, *ℤ_comm t.y s.x, *ℤ_comm t.y v.x, *ℤ_comm v.y t.x, *ℤ_comm v.y s.x, *ℤ_comm s.y v.x)

-- areas that are turned
all_turned : (x y z a b c a' b' c' : ℤ) → a' ≡ neg_ℤ a → b' ≡ neg_ℤ b → c' ≡ neg_ℤ c → x *ℤ a' +ℤ y *ℤ b' +ℤ z *ℤ neg_ℤ c' ≡ pos 0 → x *ℤ a +ℤ y *ℤ b +ℤ z *ℤ neg_ℤ c ≡ pos 0
all_turned x y z a b c a' b' c' ea eb ec h =
    omega (arith, ints, h, ap (λ (t : ℤ). x *ℤ t) ea, ap (λ (t : ℤ). y *ℤ t) eb, ap (λ (t : ℤ). z *ℤ neg_ℤ t) ec, mul-neg x a, mul-neg y b, mul-neg z (neg_ℤ c), mul-neg z c)

-- the balance of a face in y
pub face_012_y : (p u v t : Place) → (p.y -ℤ t.y) *ℤ area u v p +ℤ (p.y -ℤ u.y) *ℤ area v t p +ℤ (p.y -ℤ v.y) *ℤ neg_ℤ (area u t p) ≡ pos 0
unfolding swap
face_012_y p u v t =
    all_turned (p.y -ℤ t.y) (p.y -ℤ u.y) (p.y -ℤ v.y) (area u v p) (area v t p) (area u t p) (area (swap u) (swap v) (swap p)) (area (swap v) (swap t) (swap p))
    (area (swap u) (swap t) (swap p))
    (area_swapped u v p) (area_swapped v t p) (area_swapped u t p) (face_012 (swap p) (swap u) (swap v) (swap t))

-- and where the last two are exchanged
pub face_021_y : (p u v t : Place) → (p.y -ℤ v.y) *ℤ area u t p +ℤ (p.y -ℤ u.y) *ℤ neg_ℤ (area v t p) +ℤ (p.y -ℤ t.y) *ℤ neg_ℤ (area u v p) ≡ pos 0
face_021_y p u v t =
    subst (λ (z : ℤ). (p.y -ℤ v.y) *ℤ area u t p +ℤ (p.y -ℤ u.y) *ℤ z +ℤ (p.y -ℤ t.y) *ℤ neg_ℤ (area u v p) ≡ pos 0) (area_turned v t p) (face_012_y p u t v)

-- corners exchanged turn a volume, and a rotation keeps it
pub volume_exchanged : (p u v t : Vector) → volume p u t v ≡ neg_ℤ (volume p u v t)
volume_exchanged p u v t =
    volume_021 p u v t
    ∙ by (area (flat v) (flat t) (flat p)) (area (flat u) (flat t) (flat p)) (area (flat u) (flat v) (flat p)) (u.z -ℤ p.z) (v.z -ℤ p.z) (t.z -ℤ p.z)
    ∙ ap neg_ℤ (sym (volume_012 p u v t))
  where
    by : (a b c h k l : ℤ) → lifted (neg_ℤ a) b (neg_ℤ c) h k l ≡ neg_ℤ (lifted a (neg_ℤ b) c h k l)
    by a b c h k l = omega (arith, ints, neg-mul a h, neg-mul b k, neg-mul c l)

-- three corners moved on keep it
pub volume_rotated : (p u v t : Vector) → volume p v t u ≡ volume p u v t
volume_rotated p u v t =
    volume_is p v t u
    ∙ by (area (flat v) (flat t) (flat p)) (area (flat t) (flat u) (flat p)) (area (flat u) (flat v) (flat p)) (u.z -ℤ p.z) (v.z -ℤ p.z) (t.z -ℤ p.z)
    ∙ sym (volume_is p u v t)
  where
    by : (a b c h k l : ℤ) → lifted b c a k l h ≡ lifted a b c h k l
    by a b c h k l = omega (arith, ints)

-- four places in space: areas and volumes balance, and so do distances in x
module _ (p q0 q1 q2 q3 : Vector) where
  -- areas and volumes
  pub places_balanced : AreBalanced (area (flat q0) (flat q1) (flat p)) (area (flat q0) (flat q2) (flat p)) (area (flat q0) (flat q3) (flat p)) (area (flat q1) (flat q2) (flat p))
      (area (flat q1) (flat q3) (flat p)) (area (flat q2) (flat q3) (flat p)) (volume p q1 q2 q3) (volume p q0 q3 q2) (volume p q0 q1 q3) (volume p q0 q2 q1)
  places_balanced =
      balanced _ _ _ _ _ _ (q0.z -ℤ p.z) (q1.z -ℤ p.z) (q2.z -ℤ p.z) (q3.z -ℤ p.z) _ _ _ _ (areas_relate (flat p) (flat q0) (flat q1) (flat q2) (flat q3))
      (volume_012 p q1 q2 q3) (volume_021 p q0 q2 q3) (volume_012 p q0 q1 q3) (volume_021 p q0 q1 q2)

  -- distances in x
  pub places_distances : volume p q1 q2 q3 *ℤ (p.x -ℤ q0.x) +ℤ volume p q0 q3 q2 *ℤ (p.x -ℤ q1.x) +ℤ volume p q0 q1 q3 *ℤ (p.x -ℤ q2.x) +ℤ volume p q0 q2 q1 *ℤ
      (p.x -ℤ q3.x) ≡ pos 0
  places_distances =
      distances (area (flat q0) (flat q1) (flat p)) (area (flat q0) (flat q2) (flat p)) (area (flat q0) (flat q3) (flat p)) (area (flat q1) (flat q2) (flat p))
      (area (flat q1) (flat q3) (flat p)) (area (flat q2) (flat q3) (flat p)) (q0.z -ℤ p.z) (q1.z -ℤ p.z) (q2.z -ℤ p.z) (q3.z -ℤ p.z) _ _ _ _
      (p.x -ℤ q0.x) (p.x -ℤ q1.x) (p.x -ℤ q2.x) (p.x -ℤ q3.x)
      (volume_012 p q1 q2 q3) (volume_021 p q0 q2 q3) (volume_012 p q0 q1 q3) (volume_021 p q0 q1 q2)
      (face_012 (flat p) (flat q1) (flat q2) (flat q3)) (face_021 (flat p) (flat q0) (flat q2) (flat q3)) (face_012 (flat p) (flat q0) (flat q1) (flat q3))
      (face_021 (flat p) (flat q0) (flat q1) (flat q2))

  -- the four volumes add up to that of the tetrahedron
  pub volumes_whole : volume p q1 q2 q3 +ℤ volume p q0 q3 q2 +ℤ volume p q0 q1 q3 +ℤ volume p q0 q2 q1 ≡ volume q0 q1 q2 q3
  volumes_whole =
      by _ _ _ _ _ _ (q0.z -ℤ p.z) (q1.z -ℤ p.z) (q2.z -ℤ p.z) (q3.z -ℤ p.z) _ _ _ _ _ _ _ _ _ _ _
      (volume_012 p q1 q2 q3) (volume_021 p q0 q2 q3) (volume_012 p q0 q1 q3) (volume_021 p q0 q1 q2)
      (volume_is q0 q1 q2 q3)
      (across (flat q0) (flat q2) (flat q3) (flat p)) (turned (flat q0) (flat q1) (flat q3) (flat p)) (across (flat q0) (flat q1) (flat q2) (flat p))
      (omega (arith, ints)) (omega (arith, ints)) (omega (arith, ints))
    where
      across : (o s t x : Place) → area s t o ≡ area s t x -ℤ area o t x +ℤ area o s x
      across o s t x = omega (arith, ints)

      turned : (o s t x : Place) → area t s o ≡ area o t x -ℤ area o s x -ℤ area s t x
      turned o s t x = omega (arith, ints)

      by : (a01 a02 a03 a12 a13 a23 h0 h1 h2 h3 v0 v1 v2 v3 v b1 b2 b3 k1 k2 k3 : ℤ) → v0 ≡ lifted a23 (neg_ℤ a13) a12 h1 h2 h3 → v1 ≡ lifted (neg_ℤ a23) a03 (neg_ℤ a02) h0 h2 h3 →
          v2 ≡ lifted a13 (neg_ℤ a03) a01 h0 h1 h3 → v3 ≡ lifted (neg_ℤ a12) a02 (neg_ℤ a01) h0 h1 h2 → v ≡ lifted b1 b2 b3 k1 k2 k3 →
          b1 ≡ a23 -ℤ a03 +ℤ a02 → b2 ≡ a03 -ℤ a01 -ℤ a13 → b3 ≡ a12 -ℤ a02 +ℤ a01 → k1 ≡ h1 -ℤ h0 → k2 ≡ h2 -ℤ h0 → k3 ≡ h3 -ℤ h0 → v0 +ℤ v1 +ℤ v2 +ℤ v3 ≡ v
      by a01 a02 a03 a12 a13 a23 h0 h1 h2 h3 v0 v1 v2 v3 v b1 b2 b3 k1 k2 k3 e0 e1 e2 e3 e f1 f2 f3 g1 g2 g3 =
          added v0 v1 v2 v3 v (a23 *ℤ h1) (a23 *ℤ h0) (a13 *ℤ h2) (a13 *ℤ h0) (a12 *ℤ h3) (a12 *ℤ h0) (a03 *ℤ h2) (a03 *ℤ h1) (a03 *ℤ h0) (a02 *ℤ h3) (a02 *ℤ h1) (a02 *ℤ h0)
          (a01 *ℤ h3) (a01 *ℤ h2) (a01 *ℤ h0)
          (e0 ∙ one_neg a23 a13 a12 h1 h2 h3) (e1 ∙ two_neg a23 a03 a02 h0 h2 h3) (e2 ∙ one_neg a13 a03 a01 h0 h1 h3) (e3 ∙ two_neg a12 a02 a01 h0 h1 h2)
          (e ∙ product3 b1 b2 b3 k1 k2 k3 _ _ _ _ _ _ f1 f2 f3 g1 g2 g3 ∙ sum3 _ _ _ _ _ _ (expand a23 a03 a02 h1 h0) (expand' a03 a01 a13 h2 h0) (expand a12 a02 a01 h3 h0))
        where
          one_neg : (a b c h k l : ℤ) → lifted a (neg_ℤ b) c h k l ≡ a *ℤ h -ℤ b *ℤ k +ℤ c *ℤ l
          one_neg a b c h k l = omega (arith, ints, neg-mul b k)

          two_neg : (a b c h k l : ℤ) → lifted (neg_ℤ a) b (neg_ℤ c) h k l ≡ b *ℤ k -ℤ a *ℤ h -ℤ c *ℤ l
          two_neg a b c h k l = omega (arith, ints, neg-mul a h, neg-mul c l)

          product3 : (b1 b2 b3 k1 k2 k3 c1 c2 c3 l1 l2 l3 : ℤ) → b1 ≡ c1 → b2 ≡ c2 → b3 ≡ c3 → k1 ≡ l1 → k2 ≡ l2 → k3 ≡ l3 → lifted b1 b2 b3 k1 k2 k3 ≡ lifted c1 c2 c3 l1 l2 l3
          product3 b1 b2 b3 k1 k2 k3 c1 c2 c3 l1 l2 l3 f1 f2 f3 g1 g2 g3 = cc

          sum3 : (x y z x' y' z' : ℤ) → x ≡ x' → y ≡ y' → z ≡ z' → x +ℤ y +ℤ z ≡ x' +ℤ y' +ℤ z'
          sum3 x y z x' y' z' e f g = cc

          expand : (a b c h k : ℤ) → (a -ℤ b +ℤ c) *ℤ (h -ℤ k) ≡ a *ℤ h -ℤ b *ℤ h +ℤ c *ℤ h -ℤ (a *ℤ k -ℤ b *ℤ k +ℤ c *ℤ k)
          expand a b c h k = omega (arith, ints, mul-sub (a -ℤ b +ℤ c) h k, add-mul (a -ℤ b) c h, sub-mul a b h, add-mul (a -ℤ b) c k, sub-mul a b k)

          expand' : (a b c h k : ℤ) → (a -ℤ b -ℤ c) *ℤ (h -ℤ k) ≡ a *ℤ h -ℤ b *ℤ h -ℤ c *ℤ h -ℤ (a *ℤ k -ℤ b *ℤ k -ℤ c *ℤ k)
          expand' a b c h k = omega (arith, ints, mul-sub (a -ℤ b -ℤ c) h k, sub-mul (a -ℤ b) c h, sub-mul a b h, sub-mul (a -ℤ b) c k, sub-mul a b k)

          added : (v0 v1 v2 v3 v p231 p230 p132 p130 p123 p120 p032 p031 p030 p023 p021 p020 p013 p012 p010 : ℤ) → v0 ≡ p231 -ℤ p132 +ℤ p123 → v1 ≡ p032 -ℤ p230 -ℤ p023 →
              v2 ≡ p130 -ℤ p031 +ℤ p013 →
              v3 ≡ p021 -ℤ p120 -ℤ p012 → v ≡ (p231 -ℤ p031 +ℤ p021 -ℤ (p230 -ℤ p030 +ℤ p020)) +ℤ (p032 -ℤ p012 -ℤ p132 -ℤ (p030 -ℤ p010 -ℤ p130)) +ℤ
              (p123 -ℤ p023 +ℤ p013 -ℤ (p120 -ℤ p020 +ℤ p010)) →
              v0 +ℤ v1 +ℤ v2 +ℤ v3 ≡ v
          added v0 v1 v2 v3 v p231 p230 p132 p130 p123 p120 p032 p031 p030 p023 p021 p020 p013 p012 p010 e0 e1 e2 e3 e = omega (arith, ints)

  -- distances in y
  pub places_distances_y : volume p q1 q2 q3 *ℤ (p.y -ℤ q0.y) +ℤ volume p q0 q3 q2 *ℤ (p.y -ℤ q1.y) +ℤ volume p q0 q1 q3 *ℤ (p.y -ℤ q2.y) +ℤ volume p q0 q2 q1 *ℤ
      (p.y -ℤ q3.y) ≡ pos 0
  places_distances_y =
      distances (area (flat q0) (flat q1) (flat p)) (area (flat q0) (flat q2) (flat p)) (area (flat q0) (flat q3) (flat p)) (area (flat q1) (flat q2) (flat p))
      (area (flat q1) (flat q3) (flat p)) (area (flat q2) (flat q3) (flat p)) (q0.z -ℤ p.z) (q1.z -ℤ p.z) (q2.z -ℤ p.z) (q3.z -ℤ p.z) _ _ _ _
      (p.y -ℤ q0.y) (p.y -ℤ q1.y) (p.y -ℤ q2.y) (p.y -ℤ q3.y)
      (volume_012 p q1 q2 q3) (volume_021 p q0 q2 q3) (volume_012 p q0 q1 q3) (volume_021 p q0 q1 q2)
      (face_012_y (flat p) (flat q1) (flat q2) (flat q3)) (face_021_y (flat p) (flat q0) (flat q2) (flat q3)) (face_012_y (flat p) (flat q0) (flat q1) (flat q3))
      (face_021_y (flat p) (flat q0) (flat q1) (flat q2))

  -- distances in z
  pub places_heights : volume p q1 q2 q3 *ℤ (p.z -ℤ q0.z) +ℤ volume p q0 q3 q2 *ℤ (p.z -ℤ q1.z) +ℤ volume p q0 q1 q3 *ℤ (p.z -ℤ q2.z) +ℤ volume p q0 q2 q1 *ℤ (p.z -ℤ q3.z) ≡ pos 0
  places_heights =
      heights (area (flat q0) (flat q1) (flat p)) (area (flat q0) (flat q2) (flat p)) (area (flat q0) (flat q3) (flat p)) (area (flat q1) (flat q2) (flat p))
      (area (flat q1) (flat q3) (flat p)) (area (flat q2) (flat q3) (flat p)) (q0.z -ℤ p.z) (q1.z -ℤ p.z) (q2.z -ℤ p.z) (q3.z -ℤ p.z) _ _ _ _
      (p.z -ℤ q0.z) (p.z -ℤ q1.z) (p.z -ℤ q2.z) (p.z -ℤ q3.z)
      (volume_012 p q1 q2 q3) (volume_021 p q0 q2 q3) (volume_012 p q0 q1 q3) (volume_021 p q0 q1 q2)
      (omega (arith, ints)) (omega (arith, ints)) (omega (arith, ints)) (omega (arith, ints))
