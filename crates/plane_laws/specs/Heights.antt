-- Heights of simplices over each other, by the cross product of their edges.
use Rattle.std.specs.Prelude.{◌≡◌, ℤ, pos, neg_ℤ, ◌+ℤ◌, ◌-ℤ◌, ◌*ℤ◌}
use Rattle.std.proofs.Common.{arith, refl, ◌∙◌}
use Rattle.std.proofs.lemmas.Int.{ints}
use Rattle.std.proofs.Math.IntN.{*ℤ_comm}
use Rattle.chain_laws.specs.Products.{spread, mul-sub, sub-mul, mul-neg, neg-mul, mul-assoc}
use Rattle.plane_laws.specs.Areas.{Place, area, area_is, areas_add, exchanged}
use Rattle.plane_laws.specs.Decisions.{Vector, way, cross_product, scalar}

-- from above
abbrev pub flat : Vector → Place
flat p = record { x = p.x; y = p.y }

-- the scalar product with a cross product, by heights
triple : (e f w : Vector) → scalar (cross_product e f) w ≡ e.z *ℤ (f.x *ℤ w.y -ℤ w.x *ℤ f.y) -ℤ f.z *ℤ (e.x *ℤ w.y -ℤ w.x *ℤ e.y) +ℤ (e.x *ℤ f.y -ℤ e.y *ℤ f.x) *ℤ w.z
triple e f w =
    omega (
      arith,
      ints,
      sub-mul (e.y *ℤ f.z) (e.z *ℤ f.y) w.x,
      sub-mul (e.z *ℤ f.x) (e.x *ℤ f.z) w.y,
      mul-sub e.z (f.x *ℤ w.y) (w.x *ℤ f.y),
      mul-sub f.z (e.x *ℤ w.y) (w.x *ℤ e.y),
      mul-assoc e.z f.x w.y,
      cycled e.y f.z w.x,
      swapped e.z f.y w.x,
      mixed e.x f.z w.y,
    )
  where
    cycled : (a b c : ℤ) → (a *ℤ b) *ℤ c ≡ b *ℤ (c *ℤ a)
    cycled a b c = rw (mul-assoc a b c, exchanged a b c, *ℤ_comm a c) refl

    swapped : (a b c : ℤ) → (a *ℤ b) *ℤ c ≡ a *ℤ (c *ℤ b)
    swapped a b c = rw (mul-assoc a b c, *ℤ_comm b c) refl

    mixed : (a b c : ℤ) → (a *ℤ b) *ℤ c ≡ b *ℤ (a *ℤ c)
    mixed a b c = rw (mul-assoc a b c, exchanged a b c) refl

-- of edges and of faces it is a sum of areas times heights over any height o
pub edges_height : (o : ℤ) (a b c d : Vector) → scalar (cross_product (way a b) (way c d)) (way c a)
    ≡ area (flat c) (flat d) (flat a) *ℤ (b.z -ℤ o) +ℤ neg_ℤ (area (flat c) (flat d) (flat b)) *ℤ (a.z -ℤ o) +ℤ area (flat a) (flat b) (flat c) *ℤ (d.z -ℤ o) +ℤ neg_ℤ
    (area (flat a) (flat b) (flat d)) *ℤ (c.z -ℤ o)
edges_height o a b c d =
    let A = flat a in
    let B = flat b in
    let C = flat c in
    let D = flat d in
    triple (way a b) (way c d) (way c a)
    ∙ by _ _ _ (area C D A) (area C D B) (area A B C) (area A B D) (area_is C D A)
    (from_c (b.x -ℤ a.x) (b.y -ℤ a.y) (c.x -ℤ a.x) (c.y -ℤ a.y) (a.x -ℤ c.x) (a.y -ℤ c.y) (omega (arith, ints)) (omega (arith, ints)) ∙ area_is A B C) (across A B C D)
    (areas_add A B C D)
  where
    -- seen from c in place of a
    from_c : (ex ey ux uy wx wy : ℤ) → ux ≡ neg_ℤ wx → uy ≡ neg_ℤ wy → neg_ℤ (ex *ℤ wy -ℤ wx *ℤ ey) ≡ ex *ℤ uy -ℤ ux *ℤ ey
    from_c ex ey ux uy wx wy e f = rw (e, f) (omega (arith, ints, mul-neg ex wy, neg-mul wx ey))

    across : (A B C D : Place) → (B.x -ℤ A.x) *ℤ (D.y -ℤ C.y) -ℤ (B.y -ℤ A.y) *ℤ (D.x -ℤ C.x) ≡ area C D A -ℤ area C D B
    across A B C D = simp spread (omega (arith, ints, *ℤ_comm A.y D.x, *ℤ_comm A.y C.x, *ℤ_comm B.y D.x, *ℤ_comm B.y C.x))

    sum : (sa sb sc az bz cz dz : ℤ) → (bz -ℤ az) *ℤ sa -ℤ (dz -ℤ cz) *ℤ neg_ℤ sc +ℤ (sa -ℤ sb) *ℤ (az -ℤ cz)
        ≡ sa *ℤ (bz -ℤ o) +ℤ neg_ℤ sb *ℤ (az -ℤ o) +ℤ sc *ℤ (dz -ℤ o) +ℤ neg_ℤ (sa -ℤ sb +ℤ sc) *ℤ (cz -ℤ o)
    sum sa sb sc az bz cz dz = simp spread (omega (arith, ints, *ℤ_comm bz sa, *ℤ_comm az sa, *ℤ_comm dz sc, *ℤ_comm cz sc))

    by : (k l n sa sb sc sd : ℤ) → k ≡ sa → neg_ℤ l ≡ sc → n ≡ sa -ℤ sb → sb -ℤ sa +ℤ sd -ℤ sc ≡ pos 0 →
        (b.z -ℤ a.z) *ℤ k -ℤ (d.z -ℤ c.z) *ℤ l +ℤ n *ℤ (a.z -ℤ c.z) ≡ sa *ℤ (b.z -ℤ o) +ℤ neg_ℤ sb *ℤ (a.z -ℤ o) +ℤ sc *ℤ (d.z -ℤ o) +ℤ neg_ℤ sd *ℤ (c.z -ℤ o)
    by k l n sa sb sc sd ek el en add =
        let l' : l ≡ neg_ℤ sc = omega (arith, ints) in
        let d' : sd ≡ sa -ℤ sb +ℤ sc = omega (arith, ints) in
        rw (ek, l', en, d') (sum sa sb sc a.z b.z c.z d.z)

-- a face of three corners and a vertex
pub face_height : (u v w p : Vector) → scalar (cross_product (way u v) (way u w)) (way u p)
    ≡ area (flat v) (flat w) (flat p) *ℤ (p.z -ℤ u.z) +ℤ area (flat w) (flat u) (flat p) *ℤ (p.z -ℤ v.z) +ℤ area (flat u) (flat v) (flat p) *ℤ (p.z -ℤ w.z)
face_height u v w p =
    let U = flat u in
    let V = flat v in
    let W = flat w in
    let P = flat p in
    triple (way u v) (way u w) (way u p)
    ∙ by _ _ _ (area V W P) (area W U P) (area U V P) (area_is U W P) (area_is U V P) (whole U V W P) (omega (arith, ints))
  where
    whole : (U V W P : Place) → (V.x -ℤ U.x) *ℤ (W.y -ℤ U.y) -ℤ (V.y -ℤ U.y) *ℤ (W.x -ℤ U.x) ≡ area V W P +ℤ area W U P +ℤ area U V P
    whole U V W P = simp spread (omega (arith, ints, *ℤ_comm V.y W.x, *ℤ_comm V.y U.x, *ℤ_comm U.y W.x, *ℤ_comm U.y U.x))

    sum : (sa sb sc pz uz vz wz : ℤ) → (vz -ℤ uz) *ℤ neg_ℤ sb -ℤ (wz -ℤ uz) *ℤ sc +ℤ (sa +ℤ sb +ℤ sc) *ℤ (pz -ℤ uz) ≡ sa *ℤ (pz -ℤ uz) +ℤ sb *ℤ (pz -ℤ vz) +ℤ sc *ℤ (pz -ℤ wz)
    sum sa sb sc pz uz vz wz = simp spread (omega (arith, ints, *ℤ_comm vz sb, *ℤ_comm uz sb, *ℤ_comm wz sc, *ℤ_comm uz sc))

    by : (k l n sa sb sc : ℤ) → k ≡ area (flat u) (flat w) (flat p) → l ≡ sc → n ≡ sa +ℤ sb +ℤ sc → area (flat u) (flat w) (flat p) ≡ neg_ℤ sb →
        (v.z -ℤ u.z) *ℤ k -ℤ (w.z -ℤ u.z) *ℤ l +ℤ n *ℤ (p.z -ℤ u.z) ≡ sa *ℤ (p.z -ℤ u.z) +ℤ sb *ℤ (p.z -ℤ v.z) +ℤ sc *ℤ (p.z -ℤ w.z)
    by k l n sa sb sc ek el en turned = rw (ek ∙ turned, el, en) (sum sa sb sc p.z u.z v.z w.z)
