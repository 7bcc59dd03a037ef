-- Four faces of a tetrahedron and a vertical line: which of them it meets, and what the volumes say of those.
use Rattle.std.specs.Prelude.{◌≡◌, ℤ, pos, neg_ℤ, ◌+ℤ◌, ◌*ℤ◌, Bool, true, false, not}
use Rattle.std.proofs.Common.{arith, subst}
use Rattle.std.proofs.lemmas.Int.{ints}
use Rattle.std.proofs.Math.IntN.{*ℤ_comm}
use Rattle.plane_laws.specs.Signs.{Signed, signed_mul, signed_factor}
use Rattle.space_laws.specs.Balance.{AreBalanced}

-- of three numbers that add up to nothing, two of one sign give the third the other
third : (r : Bool) (u v w : ℤ) → u +ℤ v +ℤ w ≡ pos 0 → Signed r u → Signed r v → Signed (not r) w
third true u v w e h k = omega (arith, ints)
third false u v w e h k = omega (arith, ints)

-- a product with its factors exchanged
other_way : (r : Bool) (a b : ℤ) → Signed r (a *ℤ b) → Signed r (b *ℤ a)
other_way r a b h = subst (λ (z : ℤ). Signed r z) (*ℤ_comm a b) h

-- of three volumes at a place two of one sign, whose areas have one sign, give the third that sign, where its area has the other
pub seen : (s r : Bool) (x y z k l m : ℤ) → x *ℤ k +ℤ y *ℤ l +ℤ z *ℤ m ≡ pos 0 → Signed r k → Signed r l → Signed (not r) m → Signed s x → Signed s y → Signed s z
seen true true x y z k l m e hk hl hm hx hy =
    signed_factor false false m z hm (other_way false z m (third true (x *ℤ k) (y *ℤ l) (z *ℤ m) e (signed_mul true true x k hx hk) (signed_mul true true y l hy hl)))
seen true false x y z k l m e hk hl hm hx hy =
    signed_factor true true m z hm (other_way true z m (third false (x *ℤ k) (y *ℤ l) (z *ℤ m) e (signed_mul true false x k hx hk) (signed_mul true false y l hy hl)))
seen false true x y z k l m e hk hl hm hx hy =
    signed_factor false true m z hm (other_way true z m (third false (x *ℤ k) (y *ℤ l) (z *ℤ m) e (signed_mul false true x k hx hk) (signed_mul false true y l hy hl)))
seen false false x y z k l m e hk hl hm hx hy =
    signed_factor true false m z hm (other_way false z m (third true (x *ℤ k) (y *ℤ l) (z *ℤ m) e (signed_mul false false x k hx hk) (signed_mul false false y l hy hl)))

-- of three volumes of one sign at a place, two areas of one sign give the third the other
pub area_seen : (s r : Bool) (x y z k l m : ℤ) → x *ℤ k +ℤ y *ℤ l +ℤ z *ℤ m ≡ pos 0 → Signed s x → Signed s y → Signed s z → Signed r k → Signed r l → Signed (not r) m
area_seen true true x y z k l m e hx hy hz hk hl = signed_factor true false z m hz
    (third true (x *ℤ k) (y *ℤ l) (z *ℤ m) e (signed_mul true true x k hx hk) (signed_mul true true y l hy hl))
area_seen true false x y z k l m e hx hy hz hk hl = signed_factor true true z m hz
    (third false (x *ℤ k) (y *ℤ l) (z *ℤ m) e (signed_mul true false x k hx hk) (signed_mul true false y l hy hl))
area_seen false true x y z k l m e hx hy hz hk hl = signed_factor false true z m hz
    (third false (x *ℤ k) (y *ℤ l) (z *ℤ m) e (signed_mul false true x k hx hk) (signed_mul false true y l hy hl))
area_seen false false x y z k l m e hx hy hz hk hl = signed_factor false false z m hz
    (third true (x *ℤ k) (y *ℤ l) (z *ℤ m) e (signed_mul false false x k hx hk) (signed_mul false false y l hy hl))

-- volumes of one sign leave no three areas of one sign
pub not_alike : (s r : Bool) (x y z k l m : ℤ) → x *ℤ k +ℤ y *ℤ l +ℤ z *ℤ m ≡ pos 0 → Signed s x → Signed s y → Signed s z → Signed r k → Signed r l → Signed r m → ⊥
not_alike true true x y z k l m e hx hy hz hk hl hm = let p = signed_mul true true x k hx hk in let q = signed_mul true true y l hy hl in let r = signed_mul true true z m hz
    hm in omega (arith, ints, e, p, q, r)
not_alike true false x y z k l m e hx hy hz hk hl hm = let p = signed_mul true false x k hx hk in let q = signed_mul true false y l hy hl in let r = signed_mul true false z
    m hz hm in omega (arith, ints, e, p, q, r)
not_alike false true x y z k l m e hx hy hz hk hl hm = let p = signed_mul false true x k hx hk in let q = signed_mul false true y l hy hl in let r = signed_mul false true z
    m hz hm in omega (arith, ints, e, p, q, r)
not_alike false false x y z k l m e hx hy hz hk hl hm = let p = signed_mul false false x k hx hk in let q = signed_mul false false y l hy hl in let r = signed_mul false
    false z m hz hm in omega (arith, ints, e, p, q, r)

-- three areas of one sign
pub record Alike (s : Bool) (k l m : ℤ) : Type 0 where
  pub first : Signed s k
  pub second : Signed s l
  pub third : Signed s m

module _ {a01 a02 a03 a12 a13 a23 v0 v1 v2 v3 : ℤ} (b : AreBalanced a01 a02 a03 a12 a13 a23 v0 v1 v2 v3) where
  -- two faces that are met: where their volumes have one sign, the two others have it too
  pub pair01 : (s q r : Bool) → Alike q a12 a23 (neg_ℤ a13) → Alike r a03 (neg_ℤ a23) (neg_ℤ a02) → Signed s v0 → Signed s v1 → Signed s v2 × Signed s v3
  pair01 s true true h g x y = absurd (omega (arith, ints, h.second, g.second))
  pair01 s false false h g x y = absurd (omega (arith, ints, h.second, g.second))
  pair01 s true false h g x y = (
    seen s false v0 v1 v2 a03 a13 a23 (omega (arith, ints, b.at3)) (omega (arith, ints, g.first)) (omega (arith, ints, h.third)) (omega (arith, ints, h.second)) x y,
    seen s true v0 v1 v3 a02 a12 (neg_ℤ a23) (omega (arith, ints, b.at2)) (omega (arith, ints, g.third)) (omega (arith, ints, h.first)) (omega (arith, ints, h.second)) x y,
  )
  pair01 s false true h g x y = (
    seen s true v0 v1 v2 a03 a13 a23 (omega (arith, ints, b.at3)) (omega (arith, ints, g.first)) (omega (arith, ints, h.third)) (omega (arith, ints, h.second)) x y,
    seen s false v0 v1 v3 a02 a12 (neg_ℤ a23) (omega (arith, ints, b.at2)) (omega (arith, ints, g.third)) (omega (arith, ints, h.first)) (omega (arith, ints, h.second)) x y,
  )

  -- the first and the third face
  pub pair02 : (s q r : Bool) → Alike q a12 a23 (neg_ℤ a13) → Alike r a01 a13 (neg_ℤ a03) → Signed s v0 → Signed s v2 → Signed s v1 × Signed s v3
  pair02 s true true h g x y = absurd (omega (arith, ints, h.third, g.second))
  pair02 s false false h g x y = absurd (omega (arith, ints, h.third, g.second))
  pair02 s true false h g x y = (
    seen s true v0 v2 v1 a03 a23 a13 (omega (arith, ints, b.at3)) (omega (arith, ints, g.third)) (omega (arith, ints, h.second)) (omega (arith, ints, h.third)) x y,
    seen s false v0 v2 v3 a01 (neg_ℤ a12) (neg_ℤ a13) (omega (arith, ints, b.at1)) (omega (arith, ints, g.first)) (omega (arith, ints, h.first)) (omega (arith, ints, h.third)) x y,
  )
  pair02 s false true h g x y = (
    seen s false v0 v2 v1 a03 a23 a13 (omega (arith, ints, b.at3)) (omega (arith, ints, g.third)) (omega (arith, ints, h.second)) (omega (arith, ints, h.third)) x y,
    seen s true v0 v2 v3 a01 (neg_ℤ a12) (neg_ℤ a13) (omega (arith, ints, b.at1)) (omega (arith, ints, g.first)) (omega (arith, ints, h.first)) (omega (arith, ints, h.third)) x y,
  )

  -- the first and the last
  pub pair03 : (s q r : Bool) → Alike q a12 a23 (neg_ℤ a13) → Alike r a02 (neg_ℤ a12) (neg_ℤ a01) → Signed s v0 → Signed s v3 → Signed s v1 × Signed s v2
  pair03 s true true h g x y = absurd (omega (arith, ints, h.first, g.second))
  pair03 s false false h g x y = absurd (omega (arith, ints, h.first, g.second))
  pair03 s true false h g x y = (
    seen s false v0 v3 v1 a02 (neg_ℤ a23) a12 (omega (arith, ints, b.at2)) (omega (arith, ints, g.first)) (omega (arith, ints, h.second)) (omega (arith, ints, h.first)) x y,
    seen s true v0 v3 v2 a01 (neg_ℤ a13) (neg_ℤ a12) (omega (arith, ints, b.at1)) (omega (arith, ints, g.third)) (omega (arith, ints, h.third)) (omega (arith, ints, h.first)) x y,
  )
  pair03 s false true h g x y = (
    seen s true v0 v3 v1 a02 (neg_ℤ a23) a12 (omega (arith, ints, b.at2)) (omega (arith, ints, g.first)) (omega (arith, ints, h.second)) (omega (arith, ints, h.first)) x y,
    seen s false v0 v3 v2 a01 (neg_ℤ a13) (neg_ℤ a12) (omega (arith, ints, b.at1)) (omega (arith, ints, g.third)) (omega (arith, ints, h.third)) (omega (arith, ints, h.first)) x y,
  )

  -- the second and the third
  pub pair12 : (s q r : Bool) → Alike q a03 (neg_ℤ a23) (neg_ℤ a02) → Alike r a01 a13 (neg_ℤ a03) → Signed s v1 → Signed s v2 → Signed s v0 × Signed s v3
  pair12 s true true h g x y = absurd (omega (arith, ints, h.first, g.third))
  pair12 s false false h g x y = absurd (omega (arith, ints, h.first, g.third))
  pair12 s true false h g x y = (
    seen s false v1 v2 v0 a13 a23 a03 (omega (arith, ints, b.at3)) (omega (arith, ints, g.second)) (omega (arith, ints, h.second)) (omega (arith, ints, h.first)) x y,
    seen s false v1 v2 v3 a01 a02 a03 (omega (arith, ints, b.at0)) (omega (arith, ints, g.first)) (omega (arith, ints, h.third)) (omega (arith, ints, h.first)) x y,
  )
  pair12 s false true h g x y = (
    seen s true v1 v2 v0 a13 a23 a03 (omega (arith, ints, b.at3)) (omega (arith, ints, g.second)) (omega (arith, ints, h.second)) (omega (arith, ints, h.first)) x y,
    seen s true v1 v2 v3 a01 a02 a03 (omega (arith, ints, b.at0)) (omega (arith, ints, g.first)) (omega (arith, ints, h.third)) (omega (arith, ints, h.first)) x y,
  )

  -- the second and the last
  pub pair13 : (s q r : Bool) → Alike q a03 (neg_ℤ a23) (neg_ℤ a02) → Alike r a02 (neg_ℤ a12) (neg_ℤ a01) → Signed s v1 → Signed s v3 → Signed s v0 × Signed s v2
  pair13 s true true h g x y = absurd (omega (arith, ints, h.third, g.first))
  pair13 s false false h g x y = absurd (omega (arith, ints, h.third, g.first))
  pair13 s true false h g x y = (
    seen s true v1 v3 v0 a12 (neg_ℤ a23) a02 (omega (arith, ints, b.at2)) (omega (arith, ints, g.second)) (omega (arith, ints, h.second)) (omega (arith, ints, h.third)) x y,
    seen s true v1 v3 v2 a01 a03 a02 (omega (arith, ints, b.at0)) (omega (arith, ints, g.third)) (omega (arith, ints, h.first)) (omega (arith, ints, h.third)) x y,
  )
  pair13 s false true h g x y = (
    seen s false v1 v3 v0 a12 (neg_ℤ a23) a02 (omega (arith, ints, b.at2)) (omega (arith, ints, g.second)) (omega (arith, ints, h.second)) (omega (arith, ints, h.third)) x y,
    seen s false v1 v3 v2 a01 a03 a02 (omega (arith, ints, b.at0)) (omega (arith, ints, g.third)) (omega (arith, ints, h.first)) (omega (arith, ints, h.third)) x y,
  )

  -- the last two
  pub pair23 : (s q r : Bool) → Alike q a01 a13 (neg_ℤ a03) → Alike r a02 (neg_ℤ a12) (neg_ℤ a01) → Signed s v2 → Signed s v3 → Signed s v0 × Signed s v1
  pair23 s true true h g x y = absurd (omega (arith, ints, h.first, g.third))
  pair23 s false false h g x y = absurd (omega (arith, ints, h.first, g.third))
  pair23 s true false h g x y = (
    seen s false v2 v3 v0 (neg_ℤ a12) (neg_ℤ a13) a01 (omega (arith, ints, b.at1)) (omega (arith, ints, g.second)) (omega (arith, ints, h.second))
        (omega (arith, ints, h.first)) x y,
    seen s false v2 v3 v1 a02 a03 a01 (omega (arith, ints, b.at0)) (omega (arith, ints, g.first)) (omega (arith, ints, h.third)) (omega (arith, ints, h.first)) x y,
  )
  pair23 s false true h g x y = (
    seen s true v2 v3 v0 (neg_ℤ a12) (neg_ℤ a13) a01 (omega (arith, ints, b.at1)) (omega (arith, ints, g.second)) (omega (arith, ints, h.second))
        (omega (arith, ints, h.first)) x y,
    seen s true v2 v3 v1 a02 a03 a01 (omega (arith, ints, b.at0)) (omega (arith, ints, g.first)) (omega (arith, ints, h.third)) (omega (arith, ints, h.first)) x y,
  )

  -- no three faces are met
  pub no_three : (p q r : Bool) → Alike p a12 a23 (neg_ℤ a13) → Alike q a03 (neg_ℤ a23) (neg_ℤ a02) → Alike r a01 a13 (neg_ℤ a03) → ⊥
  no_three true true r f g h = omega (arith, ints, f.second, g.second)
  no_three false false r f g h = omega (arith, ints, f.second, g.second)
  no_three true false true f g h = omega (arith, ints, f.third, h.second)
  no_three true false false f g h = omega (arith, ints, g.first, h.third)
  no_three false true false f g h = omega (arith, ints, f.third, h.second)
  no_three false true true f g h = omega (arith, ints, g.first, h.third)
