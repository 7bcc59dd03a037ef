-- Products of whole numbers: the laws that linear arithmetic lacks.
use Rattle.std.specs.Prelude.{◌≡◌, zero, suc, ◌+◌, ◌*◌, ℤ, pos, negsuc, neg_ℤ, ◌+ℤ◌, ◌-ℤ◌, ◌*ℤ◌, ◌<ℤ◌, List, [], ◌∷◌}
use Rattle.std.proofs.Common.{arith, ap}
use Rattle.std.proofs.lemmas.Int.{ints}
use Rattle.std.proofs.Math.IntN.{pos-*ℤ-negsuc, negsuc-*ℤ-pos, *ℤ_comm}
use borrow.Author.Differences.{up, down}
use Rattle.chain_terms.specs.Sums.{total}

-- c is the product of a and b, over what is added and what is taken away
pub record IsProduct (a b c : ℤ) : Type 0 where
  pub is : up c + (up a * down b + down a * up b) ≡ down c + (up a * up b + down a * down b)

-- the product of two whole numbers is
pub product : (a b : ℤ) → IsProduct a b (a *ℤ b)
product (pos m) (pos n) = record { is = omega arith }
product (pos m) (negsuc n) = record { is = omega (arith, ints, pos-*ℤ-negsuc m n) }
product (negsuc m) (pos n) = record { is = omega (arith, ints, negsuc-*ℤ-pos m n) }
product (negsuc m) (negsuc n) = record { is = omega arith }

-- a sum, over what is added and what is taken away
pub sum_is : (b c : ℤ) → up (b +ℤ c) + (down b + down c) ≡ down (b +ℤ c) + (up b + up c)
sum_is b c = omega (arith, ints)

-- a number times a sum
pub mul-add : (a b c : ℤ) → a *ℤ (b +ℤ c) ≡ a *ℤ b +ℤ a *ℤ c
mul-add a b c =
    let s = sum_is b c in
    let u : up a * (up (b +ℤ c) + (down b + down c)) ≡ up a * (down (b +ℤ c) + (up b + up c)) = ap (λ t. up a * t) s in
    let d : down a * (up (b +ℤ c) + (down b + down c)) ≡ down a * (down (b +ℤ c) + (up b + up c)) = ap (λ t. down a * t) s in
    omega (arith, ints, u, d, (product a b).is, (product a c).is, (product a (b +ℤ c)).is)

-- a sum times a number
pub add-mul : (a b c : ℤ) → (a +ℤ b) *ℤ c ≡ a *ℤ c +ℤ b *ℤ c
add-mul a b c = omega (arith, ints, *ℤ_comm (a +ℤ b) c, *ℤ_comm a c, *ℤ_comm b c, mul-add c a b)

-- a number times a difference
pub mul-sub : (a b c : ℤ) → a *ℤ (b -ℤ c) ≡ a *ℤ b -ℤ a *ℤ c
mul-sub a b c =
    let s : up (b -ℤ c) + (down b + up c) ≡ down (b -ℤ c) + (up b + down c) = omega (arith, ints) in
    let u : up a * (up (b -ℤ c) + (down b + up c)) ≡ up a * (down (b -ℤ c) + (up b + down c)) = ap (λ t. up a * t) s in
    let d : down a * (up (b -ℤ c) + (down b + up c)) ≡ down a * (down (b -ℤ c) + (up b + down c)) = ap (λ t. down a * t) s in
    omega (arith, ints, u, d, (product a b).is, (product a c).is, (product a (b -ℤ c)).is)

-- a difference times a number
pub sub-mul : (a b c : ℤ) → (a -ℤ b) *ℤ c ≡ a *ℤ c -ℤ b *ℤ c
sub-mul a b c = omega (arith, ints, *ℤ_comm (a -ℤ b) c, *ℤ_comm a c, *ℤ_comm b c, mul-sub c a b)

-- a number times a negative
pub mul-neg : (a b : ℤ) → a *ℤ neg_ℤ b ≡ neg_ℤ (a *ℤ b)
mul-neg a b =
    let s : up (neg_ℤ b) + up b ≡ down (neg_ℤ b) + down b = omega (arith, ints) in
    let u : up a * (up (neg_ℤ b) + up b) ≡ up a * (down (neg_ℤ b) + down b) = ap (λ t. up a * t) s in
    let d : down a * (up (neg_ℤ b) + up b) ≡ down a * (down (neg_ℤ b) + down b) = ap (λ t. down a * t) s in
    omega (arith, ints, u, d, (product a b).is, (product a (neg_ℤ b)).is)

-- a negative times a number
pub neg-mul : (a b : ℤ) → neg_ℤ a *ℤ b ≡ neg_ℤ (a *ℤ b)
neg-mul a b = omega (arith, ints, *ℤ_comm (neg_ℤ a) b, *ℤ_comm a b, mul-neg b a)

-- what multiplies products of sums out
pub ruleset spread = (mul-add, add-mul, mul-neg, neg-mul)

-- three factors in two groupings
pub mul-assoc : (a b c : ℤ) → (a *ℤ b) *ℤ c ≡ a *ℤ (b *ℤ c)
mul-assoc a b c =
    let e = (product a b).is in
    let f = (product b c).is in
    let p : up c * (up (a *ℤ b) + (up a * down b + down a * up b)) ≡ up c * (down (a *ℤ b) + (up a * up b + down a * down b)) = ap (λ t. up c * t) e in
    let q : down c * (up (a *ℤ b) + (up a * down b + down a * up b)) ≡ down c * (down (a *ℤ b) + (up a * up b + down a * down b)) = ap (λ t. down c * t) e in
    let r : up a * (up (b *ℤ c) + (up b * down c + down b * up c)) ≡ up a * (down (b *ℤ c) + (up b * up c + down b * down c)) = ap (λ t. up a * t) f in
    let s : down a * (up (b *ℤ c) + (up b * down c + down b * up c)) ≡ down a * (down (b *ℤ c) + (up b * up c + down b * down c)) = ap (λ t. down a * t) f in
    omega (arith, ints, p, q, r, s, (product (a *ℤ b) c).is, (product a (b *ℤ c)).is)

-- a product of positive numbers is positive
pub pos_mul : (a b : ℤ) → pos 0 <ℤ a → pos 0 <ℤ b → pos 0 <ℤ (a *ℤ b)
pos_mul (pos zero) b p q = absurd (omega (arith, ints, p))
pos_mul (pos (suc m)) (pos zero) p q = absurd (omega (arith, ints, q))
pos_mul (pos (suc m)) (pos (suc n)) p q = omega (arith, ints)
pos_mul (pos (suc m)) (negsuc n) p q = absurd (omega (arith, ints, q))
pos_mul (negsuc m) b p q = absurd (omega (arith, ints, p))

-- a factor has the sign that the product and the other factor give
pub pos_factor : (a b : ℤ) → pos 0 <ℤ a → pos 0 <ℤ (a *ℤ b) → pos 0 <ℤ b
pos_factor (pos zero) b p q = absurd (omega (arith, ints, p))
pos_factor (pos (suc m)) (pos zero) p q = absurd (omega (arith, ints, q, (product (pos (suc m)) (pos zero)).is))
pos_factor (pos (suc m)) (pos (suc n)) p q = omega (arith, ints)
pos_factor (pos (suc m)) (negsuc n) p q = absurd (omega (arith, ints, q, (product (pos (suc m)) (negsuc n)).is))
pos_factor (negsuc m) b p q = absurd (omega (arith, ints, p))

-- a sum of multiples
pub total-times : {X : Type 0} (c : ℤ) (f : X → ℤ) (xs : List X) → total (λ x. c *ℤ f x) xs ≡ c *ℤ total f xs
total-times c f [] = omega (arith, ints, (product c (pos 0)).is)
total-times c f (x ∷ xs) = omega (arith, ints, total-times c f xs, mul-add c (f x) (total f xs))
