-- Doubled areas of three places in the plane, and how those of four places balance.
use Rattle.std.specs.Prelude.{◌≡◌, ℤ, pos, neg_ℤ, ◌+ℤ◌, ◌-ℤ◌, ◌*ℤ◌}
use Rattle.std.proofs.Common.{arith, refl, ap, ◌∙◌}
use Rattle.std.proofs.lemmas.Int.{ints}
use Rattle.std.proofs.Math.IntN.{*ℤ_comm}
use Rattle.chain_laws.specs.Products.{spread, product, mul-add, mul-sub, sub-mul, mul-assoc}

-- a place in the plane
pub record Place : Type 0 where
  pub x : ℤ
  pub y : ℤ

-- the doubled area of the origin and two places
abbrev pub minor : Place → Place → ℤ
minor s t = s.x *ℤ t.y -ℤ t.x *ℤ s.y

-- the doubled area of three places, above 0 where they turn left
abbrev pub area : Place → Place → Place → ℤ
area s t v = minor s t +ℤ minor t v +ℤ minor v s

-- by the edge from s to t and the way from s to v
pub area_is : (s t v : Place) → (t.x -ℤ s.x) *ℤ (v.y -ℤ s.y) -ℤ (v.x -ℤ s.x) *ℤ (t.y -ℤ s.y) ≡ area s t v
area_is s t v = simp spread (omega (arith, ints, *ℤ_comm s.x s.y, *ℤ_comm s.x t.y, *ℤ_comm v.x s.y))

-- a number times a minor
times_minor : (a : ℤ) (s t : Place) → a *ℤ minor s t ≡ a *ℤ (s.x *ℤ t.y) -ℤ a *ℤ (t.x *ℤ s.y)
times_minor a s t = mul-sub a (s.x *ℤ t.y) (t.x *ℤ s.y)

-- three factors, the first two exchanged
pub exchanged : (a b c : ℤ) → a *ℤ (b *ℤ c) ≡ b *ℤ (a *ℤ c)
exchanged a b c = rw (← mul-assoc a b c, *ℤ_comm a b, mul-assoc b a c) refl

-- a determinant of three columns with two equal rows is 0
pub no_volume : (s t v : Place) → s.x *ℤ minor t v +ℤ t.x *ℤ minor v s +ℤ v.x *ℤ minor s t ≡ pos 0
no_volume s t v = omega (arith, ints, times_minor s.x t v, times_minor t.x v s, times_minor v.x s t, exchanged s.x t.x v.y, exchanged t.x v.x s.y, exchanged v.x s.x t.y)

-- a number times an area
times_area : (a : ℤ) (s t v : Place) → a *ℤ area s t v ≡ a *ℤ minor s t +ℤ a *ℤ minor t v +ℤ a *ℤ minor v s
times_area a s t v = omega (arith, ints, mul-add a (minor s t +ℤ minor t v) (minor v s), mul-add a (minor s t) (minor t v))

-- the areas of the ends of each of two edges with the other edge add up
pub areas_add : (a b c d : Place) → area c d b -ℤ area c d a +ℤ area a b d -ℤ area a b c ≡ pos 0
areas_add a b c d = omega (arith, ints)

-- a minor turned
minor_turned : (a : ℤ) (s t : Place) → a *ℤ minor t s ≡ neg_ℤ (a *ℤ minor s t)
minor_turned a s t = omega (arith, ints, times_minor a s t, times_minor a t s)

-- no volume, with one minor turned, and with two
one_turned : (s t v : Place) → s.x *ℤ minor t v +ℤ t.x *ℤ minor v s -ℤ v.x *ℤ minor t s ≡ pos 0
one_turned s t v = omega (arith, ints, no_volume s t v, minor_turned v.x s t)

-- with two minors turned
two_turned : (s t v : Place) → s.x *ℤ minor t v -ℤ t.x *ℤ minor s v -ℤ v.x *ℤ minor t s ≡ pos 0
two_turned s t v = omega (arith, ints, one_turned s t v, minor_turned t.x v s)

-- and balance in x
pub areas_balance : (a b c d : Place) → a.x *ℤ area c d b -ℤ b.x *ℤ area c d a +ℤ c.x *ℤ area a b d -ℤ d.x *ℤ area a b c ≡ pos 0
areas_balance a b c d =
    omega (
      arith,
      ints,
      times_area a.x c d b,
      times_area b.x c d a,
      times_area c.x a b d,
      times_area d.x a b c,
      one_turned a c d,
      two_turned a d b,
      one_turned c a b,
      one_turned d b c,
    )

-- seen from any place in x
pub areas_balance_at : (x : ℤ) (a b c d : Place) → (a.x -ℤ x) *ℤ area c d b -ℤ (b.x -ℤ x) *ℤ area c d a +ℤ (c.x -ℤ x) *ℤ area a b d -ℤ (d.x -ℤ x) *ℤ area a b c ≡ pos 0
areas_balance_at x a b c d =
    let sum : x *ℤ (area c d b -ℤ area c d a +ℤ area a b d -ℤ area a b c) ≡ pos 0 = ap (λ (z : ℤ). x *ℤ z) (areas_add a b c d) ∙ times_zero x in
    moved x a.x b.x c.x d.x (area c d b) (area c d a) (area a b d) (area a b c) (areas_balance a b c d) sum
  where
    times_zero : (x : ℤ) → x *ℤ pos 0 ≡ pos 0
    times_zero x = omega (arith, ints, (product x (pos 0)).is)

    moved : (x a b c d k l m n : ℤ) → a *ℤ k -ℤ b *ℤ l +ℤ c *ℤ m -ℤ d *ℤ n ≡ pos 0 → x *ℤ (k -ℤ l +ℤ m -ℤ n) ≡ pos 0 →
        (a -ℤ x) *ℤ k -ℤ (b -ℤ x) *ℤ l +ℤ (c -ℤ x) *ℤ m -ℤ (d -ℤ x) *ℤ n ≡ pos 0
    moved x a b c d k l m n e s =
        omega (arith, ints, e, s, sub-mul a x k, sub-mul b x l, sub-mul c x m, sub-mul d x n, mul-sub x (k -ℤ l +ℤ m) n, mul-add x (k -ℤ l) m, mul-sub x k l)
