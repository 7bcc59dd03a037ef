-- The space lemma: the shadows of a vertex on the four faces of a tetrahedron add up to minus its sign where the vertex is inside, else to 0.
use Rattle.std.specs.Prelude.{◌≡◌, ◌≢◌, ℤ, pos, neg_ℤ, ◌+ℤ◌, ◌-ℤ◌, ◌*ℤ◌, Bool, true, false, ◌⊎◌}
use Rattle.std.proofs.Common.{arith, inl, inr}
use Rattle.std.proofs.lemmas.Int.{ints}
use Rattle.plane_laws.specs.Signs.{Signed}
use Rattle.solid_terms.specs.Solids.{one_sign}
use Rattle.space_laws.specs.Volumes.{unit, unit_odd, one_sign_all, one_sign_not}
use Rattle.space_laws.specs.Balance.{AreBalanced}
use Rattle.space_laws.specs.Edges.{EdgeOf, Within, plane, edge_back}
use Rattle.space_laws.specs.Met.{Alike, pair01, pair02, pair03, pair12, pair13, pair23, no_three}
use Rattle.space_laws.specs.Unmet.{none_met}

-- a face that is met: its volume has a sign, and its shadow is half of the count less that sign
pub record Seen (n v s : ℤ) : Type 0 where
  pub sight : Bool
  pub volume : Signed sight v
  pub shadow : s +ℤ s ≡ n -ℤ unit sight

-- the shadow s of a vertex on a face of count n and volume v
pub record ShadowOf (n v s : ℤ) : Type 0 where
  pub none : n ≡ pos 0 → s ≡ pos 0
  pub some : n ≢ pos 0 → Seen n v s

-- a face that is met, with the areas of its edges
record Met (k l m v n s : ℤ) : Type 0 where
  side : Bool
  alike : Alike side k l m
  sight : Bool
  volume : Signed sight v
  count : n ≡ unit side
  shadow : s +ℤ s ≡ n -ℤ unit sight

-- a face is met or not
Face : ℤ → ℤ → ℤ → ℤ → ℤ → ℤ → Type 0
Face k l m v n s = ((n ≡ pos 0) × (s ≡ pos 0)) ⊎ Met k l m v n s

-- which of the two, by the plane lemma
face : (k l m v n s : ℤ) → (n ≡ pos 0) ⊎ Within k l m n → ShadowOf n v s → Face k l m v n s
unfolding Face
face k l m v n s (inl z) h = inl (z, h.none z)
face k l m v n s (inr w) h =
    let q = h.some (λ z. omega (arith, ints, z, w.count, unit_odd w.side)) in
    inr (record { side = w.side; alike = record { first = w.first; second = w.second; third = w.third }; sight = q.sight; volume = q.volume; count = w.count; shadow = q.shadow })

-- two faces that are met
pub two_met : (e f : Bool) (v w s t n m i : ℤ) → Signed e v → Signed f w → s +ℤ s ≡ n -ℤ unit e → t +ℤ t ≡ m -ℤ unit f → n +ℤ m ≡ pos 0 →
    ((r : Bool) → Signed r v → Signed r w → i ≡ unit r) → (((r : Bool) → Signed r v → Signed r w → ⊥) → i ≡ pos 0) → s +ℤ t ≡ neg_ℤ i
two_met true true v w s t n m i hv hw hs ht z all not_all = omega (arith, ints, hs, ht, z, all true hv hw)
two_met false false v w s t n m i hv hw hs ht z all not_all = omega (arith, ints, hs, ht, z, all false hv hw)
two_met true false v w s t n m i hv hw hs ht z all not_all =
    let o : (r : Bool) → Signed r v → Signed r w → ⊥ = opposite v w hv hw in omega (arith, ints, hs, ht, z, not_all o) where
      opposite : (v w : ℤ) → Signed true v → Signed false w → (r : Bool) → Signed r v → Signed r w → ⊥
      opposite v w hv hw true k l = omega (arith, ints, hw, l)
      opposite v w hv hw false k l = omega (arith, ints, hv, k)
two_met false true v w s t n m i hv hw hs ht z all not_all =
    let o : (r : Bool) → Signed r v → Signed r w → ⊥ = opposite v w hv hw in omega (arith, ints, hs, ht, z, not_all o) where
      opposite : (v w : ℤ) → Signed false v → Signed true w → (r : Bool) → Signed r v → Signed r w → ⊥
      opposite v w hv hw true k l = omega (arith, ints, hv, k)
      opposite v w hv hw false k l = omega (arith, ints, hw, l)

module _ {a01 a02 a03 a12 a13 a23 v0 v1 v2 v3 : ℤ} (b : AreBalanced a01 a02 a03 a12 a13 a23 v0 v1 v2 v3) (n0 n1 n2 n3 s0 s1 s2 s3 : ℤ) (whole : n0 +ℤ n1 +ℤ n2 +ℤ n3 ≡ pos 0)
    (none : (s : Bool) → n0 ≡ pos 0 → n1 ≡ pos 0 → n2 ≡ pos 0 → n3 ≡ pos 0 → Signed s v0 → Signed s v1 → Signed s v2 → Signed s v3 → ⊥) where
  -- by the faces that are met: none, or two
  added : Face a12 a23 (neg_ℤ a13) v0 n0 s0 → Face a03 (neg_ℤ a23) (neg_ℤ a02) v1 n1 s1 → Face a01 a13 (neg_ℤ a03) v2 n2 s2 → Face a02 (neg_ℤ a12) (neg_ℤ a01) v3 n3 s3 →
      s0 +ℤ s1 +ℤ s2 +ℤ s3 ≡ neg_ℤ (one_sign v0 v1 v2 v3)
  unfolding Face
  added (inl z0) (inl z1) (inl z2) (inl z3) =
      omega (arith, ints, z0.1, z1.1, z2.1, z3.1, one_sign_not v0 v1 v2 v3 (λ s. none s z0.0 z1.0 z2.0 z3.0))
  added (inl z0) (inl z1) (inl z2) (inr m3) =
      absurd (omega (arith, ints, whole, z0.0, z1.0, z2.0, m3.count, unit_odd m3.side))
  added (inl z0) (inl z1) (inr m2) (inl z3) =
      absurd (omega (arith, ints, whole, z0.0, z1.0, z3.0, m2.count, unit_odd m2.side))
  added (inl z0) (inl z1) (inr m2) (inr m3) =
      omega (
        arith,
        ints,
        z0.1,
        z1.1,
        two_met m2.sight m3.sight v2 v3 s2 s3 n2 n3 (one_sign v0 v1 v2 v3) m2.volume m3.volume m2.shadow m3.shadow (omega (arith, ints, whole, z0.0, z1.0))
            (λ s h g. let p = pair23 b s m2.side m3.side m2.alike m3.alike h g in one_sign_all s v0 v1 v2 v3 p.0 p.1 h g)
            (λ f. one_sign_not v0 v1 v2 v3 (λ s h0 h1 h2 h3. f s h2 h3)),
      )
  added (inl z0) (inr m1) (inl z2) (inl z3) =
      absurd (omega (arith, ints, whole, z0.0, z2.0, z3.0, m1.count, unit_odd m1.side))
  added (inl z0) (inr m1) (inl z2) (inr m3) =
      omega (
        arith,
        ints,
        z0.1,
        z2.1,
        two_met m1.sight m3.sight v1 v3 s1 s3 n1 n3 (one_sign v0 v1 v2 v3) m1.volume m3.volume m1.shadow m3.shadow (omega (arith, ints, whole, z0.0, z2.0))
            (λ s h g. let p = pair13 b s m1.side m3.side m1.alike m3.alike h g in one_sign_all s v0 v1 v2 v3 p.0 h p.1 g)
            (λ f. one_sign_not v0 v1 v2 v3 (λ s h0 h1 h2 h3. f s h1 h3)),
      )
  added (inl z0) (inr m1) (inr m2) (inl z3) =
      omega (
        arith,
        ints,
        z0.1,
        z3.1,
        two_met m1.sight m2.sight v1 v2 s1 s2 n1 n2 (one_sign v0 v1 v2 v3) m1.volume m2.volume m1.shadow m2.shadow (omega (arith, ints, whole, z0.0, z3.0))
            (λ s h g. let p = pair12 b s m1.side m2.side m1.alike m2.alike h g in one_sign_all s v0 v1 v2 v3 p.0 h g p.1)
            (λ f. one_sign_not v0 v1 v2 v3 (λ s h0 h1 h2 h3. f s h1 h2)),
      )
  added (inl z0) (inr m1) (inr m2) (inr m3) =
      absurd (omega (arith, ints, whole, z0.0, m1.count, m2.count, m3.count, unit_odd m1.side, unit_odd m2.side, unit_odd m3.side))
  added (inr m0) (inl z1) (inl z2) (inl z3) =
      absurd (omega (arith, ints, whole, z1.0, z2.0, z3.0, m0.count, unit_odd m0.side))
  added (inr m0) (inl z1) (inl z2) (inr m3) =
      omega (
        arith,
        ints,
        z1.1,
        z2.1,
        two_met m0.sight m3.sight v0 v3 s0 s3 n0 n3 (one_sign v0 v1 v2 v3) m0.volume m3.volume m0.shadow m3.shadow (omega (arith, ints, whole, z1.0, z2.0))
            (λ s h g. let p = pair03 b s m0.side m3.side m0.alike m3.alike h g in one_sign_all s v0 v1 v2 v3 h p.0 p.1 g)
            (λ f. one_sign_not v0 v1 v2 v3 (λ s h0 h1 h2 h3. f s h0 h3)),
      )
  added (inr m0) (inl z1) (inr m2) (inl z3) =
      omega (
        arith,
        ints,
        z1.1,
        z3.1,
        two_met m0.sight m2.sight v0 v2 s0 s2 n0 n2 (one_sign v0 v1 v2 v3) m0.volume m2.volume m0.shadow m2.shadow (omega (arith, ints, whole, z1.0, z3.0))
            (λ s h g. let p = pair02 b s m0.side m2.side m0.alike m2.alike h g in one_sign_all s v0 v1 v2 v3 h p.0 g p.1)
            (λ f. one_sign_not v0 v1 v2 v3 (λ s h0 h1 h2 h3. f s h0 h2)),
      )
  added (inr m0) (inl z1) (inr m2) (inr m3) =
      absurd (omega (arith, ints, whole, z1.0, m0.count, m2.count, m3.count, unit_odd m0.side, unit_odd m2.side, unit_odd m3.side))
  added (inr m0) (inr m1) (inl z2) (inl z3) =
      omega (
        arith,
        ints,
        z2.1,
        z3.1,
        two_met m0.sight m1.sight v0 v1 s0 s1 n0 n1 (one_sign v0 v1 v2 v3) m0.volume m1.volume m0.shadow m1.shadow (omega (arith, ints, whole, z2.0, z3.0))
            (λ s h g. let p = pair01 b s m0.side m1.side m0.alike m1.alike h g in one_sign_all s v0 v1 v2 v3 h g p.0 p.1)
            (λ f. one_sign_not v0 v1 v2 v3 (λ s h0 h1 h2 h3. f s h0 h1)),
      )
  added (inr m0) (inr m1) (inl z2) (inr m3) =
      absurd (omega (arith, ints, whole, z2.0, m0.count, m1.count, m3.count, unit_odd m0.side, unit_odd m1.side, unit_odd m3.side))
  added (inr m0) (inr m1) (inr m2) (inl z3) =
      absurd (omega (arith, ints, whole, z3.0, m0.count, m1.count, m2.count, unit_odd m0.side, unit_odd m1.side, unit_odd m2.side))
  added (inr m0) (inr m1) (inr m2) (inr m3) =
      absurd (no_three b m0.side m1.side m2.side m0.alike m1.alike m2.alike)

-- each edge is in two faces, once in each direction
cancel : (e01 e02 e03 e12 e13 e23 : ℤ) → (e12 +ℤ e23 +ℤ neg_ℤ e13) +ℤ (e03 +ℤ neg_ℤ e23 +ℤ neg_ℤ e02) +ℤ (e01 +ℤ e13 +ℤ neg_ℤ e03) +ℤ (e02 +ℤ neg_ℤ e12 +ℤ neg_ℤ e01) ≡ pos 0
cancel e01 e02 e03 e12 e13 e23 = omega (arith, ints)

-- four places and a vertex, which is past place i in x where bi is true: areas, distances in x, and shadows of the vertex and the edges
module _ {a01 a02 a03 a12 a13 a23 v0 v1 v2 v3 : ℤ} (x0 x1 x2 x3 e01 e02 e03 e12 e13 e23 : ℤ) (b : AreBalanced a01 a02 a03 a12 a13 a23 v0 v1 v2 v3)
    (d : v0 *ℤ x0 +ℤ v1 *ℤ x1 +ℤ v2 *ℤ x2 +ℤ v3 *ℤ x3 ≡ pos 0)
    (p0 : x3 *ℤ a12 +ℤ x1 *ℤ a23 +ℤ x2 *ℤ neg_ℤ a13 ≡ pos 0) (p1 : x2 *ℤ a03 +ℤ x0 *ℤ neg_ℤ a23 +ℤ x3 *ℤ neg_ℤ a02 ≡ pos 0)
    (p2 : x3 *ℤ a01 +ℤ x0 *ℤ a13 +ℤ x1 *ℤ neg_ℤ a03 ≡ pos 0) (p3 : x1 *ℤ a02 +ℤ x0 *ℤ neg_ℤ a12 +ℤ x2 *ℤ neg_ℤ a01 ≡ pos 0) where
  pub space : (b0 b1 b2 b3 : Bool) → Signed b0 x0 → Signed b1 x1 → Signed b2 x2 → Signed b3 x3 →
      EdgeOf b0 b1 a01 e01 → EdgeOf b0 b2 a02 e02 → EdgeOf b0 b3 a03 e03 → EdgeOf b1 b2 a12 e12 → EdgeOf b1 b3 a13 e13 → EdgeOf b2 b3 a23 e23 →
      (s0 s1 s2 s3 : ℤ) → ShadowOf (e12 +ℤ e23 +ℤ neg_ℤ e13) v0 s0 → ShadowOf (e03 +ℤ neg_ℤ e23 +ℤ neg_ℤ e02) v1 s1 → ShadowOf (e01 +ℤ e13 +ℤ neg_ℤ e03) v2 s2 →
      ShadowOf (e02 +ℤ neg_ℤ e12 +ℤ neg_ℤ e01) v3 s3 →
      s0 +ℤ s1 +ℤ s2 +ℤ s3 ≡ neg_ℤ (one_sign v0 v1 v2 v3)
  space b0 b1 b2 b3 k0 k1 k2 k3 f01 f02 f03 f12 f13 f23 s0 s1 s2 s3 h0 h1 h2 h3 =
      added b (e12 +ℤ e23 +ℤ neg_ℤ e13) (e03 +ℤ neg_ℤ e23 +ℤ neg_ℤ e02) (e01 +ℤ e13 +ℤ neg_ℤ e03) (e02 +ℤ neg_ℤ e12 +ℤ neg_ℤ e01) s0 s1 s2 s3 (cancel e01 e02 e03 e12 e13 e23)
      (λ s z0 z1 z2 z3. none_met x0 x1 x2 x3 e01 e02 e03 e12 e13 e23 b d s b0 b1 b2 b3 k0 k1 k2 k3 f01 f02 f03 f12 f13 f23 z0 z1 z2 z3)
      (face a12 a23 (neg_ℤ a13) v0 _ s0 (plane b1 b2 b3 x1 x2 x3 a12 a23 (neg_ℤ a13) e12 e23 (neg_ℤ e13) p0 k1 k2 k3 f12 f23 (edge_back b1 b3 a13 e13 f13)) h0)
      (face a03 (neg_ℤ a23) (neg_ℤ a02) v1 _ s1 (plane b0 b3 b2 x0 x3 x2 a03 (neg_ℤ a23) (neg_ℤ a02) e03 (neg_ℤ e23) (neg_ℤ e02) p1 k0 k3 k2 f03
      (edge_back b2 b3 a23 e23 f23) (edge_back b0 b2 a02 e02 f02)) h1)
      (face a01 a13 (neg_ℤ a03) v2 _ s2 (plane b0 b1 b3 x0 x1 x3 a01 a13 (neg_ℤ a03) e01 e13 (neg_ℤ e03) p2 k0 k1 k3 f01 f13 (edge_back b0 b3 a03 e03 f03)) h2)
      (face a02 (neg_ℤ a12) (neg_ℤ a01) v3 _ s3 (plane b0 b2 b1 x0 x2 x1 a02 (neg_ℤ a12) (neg_ℤ a01) e02 (neg_ℤ e12) (neg_ℤ e01) p3 k0 k2 k1 f02
      (edge_back b1 b2 a12 e12 f12) (edge_back b0 b1 a01 e01 f01)) h3)
