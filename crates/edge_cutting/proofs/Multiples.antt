-- Ways that have one direction: those in the direction of a way without a common divisor are multiples of it.
use Rattle.std.specs.Prelude.{◌≡◌, ◌≢◌, ℕ, zero, suc, ◌*◌, ◌/◌, ◌≤◌, ◌⊎◌, ℤ, pos, negsuc, neg_ℤ, ◌-ℤ◌, ◌*ℤ◌, unsigned_abs}
use Rattle.std.specs.Int.{◌∣◌}
use Rattle.std.proofs.Common.{arith, refl, sym, ap, subst, ◌∙◌, inl, inr}
use Rattle.std.proofs.Math.IntN.{*ℤ_comm}
use Rattle.std.proofs.Math.Nat.{dvd-mul_left, div-mul_cancel, mul_comm}
use Rattle.std.proofs.lemmas.Int.{ints, unsigned_abs-mul}
use Rattle.std.proofs.lemmas.Nat.Gcd.{dvd-zero, le_of_dvd}
use Rattle.chain_laws.specs.Products.{mul-assoc, mul-neg, mul-sub, neg-mul, product}
use Rattle.chain_laws.specs.Signs.{zero_or_not}
use Rattle.edge_cutting.specs.Divisors.{IsCommonDivisor}
use Rattle.edge_cutting.proofs.CommonDivisors.{times_none}

-- no number above 1 divides all three
abbrev pub IsPrimitive : ℤ → ℤ → ℤ → Type 0
IsPrimitive a b c = IsCommonDivisor (unsigned_abs a) (unsigned_abs b) (unsigned_abs c) 1

-- the way x y z has the direction of a b c, or the opposite one, or is none
pub record AreParallel (a b c x y z : ℤ) : Type 0 where
  pub ab : a *ℤ y ≡ x *ℤ b
  pub bc : b *ℤ z ≡ y *ℤ c
  pub ca : c *ℤ x ≡ z *ℤ a

-- it is k times a b c
pub record IsTimes (k a b c u v w : ℤ) : Type 0 where
  pub x : u ≡ k *ℤ a
  pub y : v ≡ k *ℤ b
  pub z : w ≡ k *ℤ c

-- for some k
pub record IsMultiple (a b c x y z : ℤ) : Type 0 where
  pub factor : ℤ
  pub times : IsTimes factor a b c x y z

-- from the next coordinate on
pub parallel_round : (a b c x y z : ℤ) → AreParallel a b c x y z → AreParallel b c a y z x
parallel_round a b c x y z h = record { ab = h.bc; bc = h.ca; ca = h.ab }

primitive_round : (a b c : ℤ) → IsPrimitive a b c → IsPrimitive b c a
primitive_round a b c h = record { first = h.second; second = h.third; third = h.first; most = λ d p q r. h.most d r p q }

multiple_round : (a b c x y z : ℤ) → IsMultiple b c a y z x → IsMultiple a b c x y z
multiple_round a b c x y z m = record { factor = m.factor; times = record { x = m.times.z; y = m.times.x; z = m.times.y } }

-- a product is none where a factor is none
pub none_of : (d z : ℤ) → d ≢ pos 0 → d *ℤ z ≡ pos 0 → z ≡ pos 0
none_of d (pos zero) some e = refl
none_of (pos zero) (pos (suc n)) some e = absurd (some refl)
none_of (pos (suc m)) (pos (suc n)) some e = absurd (omega (arith, ints, e, (product (pos (suc m)) (pos (suc n))).is))
none_of (negsuc m) (pos (suc n)) some e = absurd (omega (arith, ints, e, (product (negsuc m) (pos (suc n))).is))
none_of (pos zero) (negsuc n) some e = absurd (some refl)
none_of (pos (suc m)) (negsuc n) some e = absurd (omega (arith, ints, e, (product (pos (suc m)) (negsuc n)).is))
none_of (negsuc m) (negsuc n) some e = absurd (omega (arith, ints, e, (product (negsuc m) (negsuc n)).is))

-- a factor may be left out
pub cancel : (d x y : ℤ) → d ≢ pos 0 → d *ℤ x ≡ d *ℤ y → x ≡ y
cancel d x y some e =
    let none : d *ℤ (x -ℤ y) ≡ pos 0 = omega (arith, ints, mul-sub d x y, e) in
    let same : x -ℤ y ≡ pos 0 = none_of d (x -ℤ y) some none in
    omega (arith, ints, same)

-- where a size divides another
record HasFactor (a x : ℤ) : Type 0 where
  factor : ℤ
  is : x ≡ factor *ℤ a

factor_of : (a x : ℤ) → unsigned_abs a ∣ unsigned_abs x → HasFactor a x
factor_of (pos m) (pos n) h = record { factor = pos (n / m); is = ap pos (sym (div-mul_cancel m h)) }
factor_of (pos m) (negsuc n) h =
    record { factor = neg_ℤ (pos (suc n / m)); is = sym (neg-mul (pos (suc n / m)) (pos m) ∙ ap (λ t. neg_ℤ (pos t)) (div-mul_cancel m h)) }
factor_of (negsuc m) (pos n) h =
    let q = n / suc m in
    let turned : pos q *ℤ negsuc m ≡ neg_ℤ (pos n) = mul-neg (pos q) (pos (suc m)) ∙ ap (λ t. neg_ℤ (pos t)) (div-mul_cancel (suc m) h) in
    record { factor = neg_ℤ (pos q); is = omega (arith, ints, neg-mul (pos q) (negsuc m), turned) }
factor_of (negsuc m) (negsuc n) h =
    record { factor = pos (suc n / suc m); is = sym (mul-neg (pos (suc n / suc m)) (pos (suc m)) ∙ ap (λ t. neg_ℤ (pos t)) (div-mul_cancel (suc m) h)) }

-- each coordinate of it is a multiple
divides_first : (a b c x y z : ℤ) → IsPrimitive a b c → AreParallel a b c x y z → unsigned_abs a ∣ unsigned_abs x
divides_first a b c x y z one h =
    let size : ℤ → ℕ = unsigned_abs in
    let first : size a ∣ size x * size a = dvd-mul_left (size a) (size x) in
    let second : size a ∣ size x * size b =
    subst (λ t. size a ∣ t) (mul_comm (size y) (size a) ∙ sym (unsigned_abs-mul a y) ∙ ap size h.ab ∙ unsigned_abs-mul x b) (dvd-mul_left (size a) (size y)) in
    let third : size a ∣ size x * size c =
    subst (λ t. size a ∣ t) (sym (unsigned_abs-mul z a) ∙ ap size (sym h.ca) ∙ unsigned_abs-mul c x ∙ mul_comm (size c) (size x)) (dvd-mul_left (size a) (size z)) in
    times_none (size x) (size a) (size b) (size c) one (size a) first second third

-- where the first coordinate is some
from_first : (a b c x y z : ℤ) → a ≢ pos 0 → IsPrimitive a b c → AreParallel a b c x y z → IsMultiple a b c x y z
from_first a b c x y z some one h =
    let f = factor_of a x (divides_first a b c x y z one h) in
    let k = f.factor in
    let second : a *ℤ y ≡ a *ℤ (k *ℤ b) = h.ab ∙ ap (λ t. t *ℤ b) (f.is ∙ *ℤ_comm k a) ∙ mul-assoc a k b in
    let third : a *ℤ z ≡ a *ℤ (k *ℤ c) = *ℤ_comm a z ∙ sym h.ca ∙ ap (λ t. c *ℤ t) (f.is ∙ *ℤ_comm k a) ∙ *ℤ_comm c (a *ℤ k) ∙ mul-assoc a k c in
    record { factor = k; times = record { x = f.is; y = cancel a y (k *ℤ b) some second; z = cancel a z (k *ℤ c) some third } }

-- three that are none have every common divisor
no_way : (a b c : ℤ) → IsPrimitive a b c → a ≡ pos 0 → b ≡ pos 0 → c ≡ pos 0 → ⊥
no_way a b c one p q r =
    let zero_divides : (z : ℤ) → z ≡ pos 0 → 2 ∣ unsigned_abs z = λ z e. subst (λ t. 2 ∣ unsigned_abs t) (sym e) (dvd-zero 2) in
    let two = one.most 2 (zero_divides a p) (zero_divides b q) (zero_divides c r) in
    let small : 2 ≤ 1 = le_of_dvd (omega arith) two in
    omega (arith, small)

-- so the way is a multiple
pub multiple_of : (a b c x y z : ℤ) → IsPrimitive a b c → AreParallel a b c x y z → IsMultiple a b c x y z
multiple_of a b c x y z one h = elim (zero_or_not a) as (λ _. IsMultiple a b c x y z) [
  | inr some ↦ from_first a b c x y z some one h
  | inl p ↦ elim (zero_or_not b) as (λ _. IsMultiple a b c x y z) [
    | inr some ↦ multiple_round a b c x y z (from_first b c a y z x some (primitive_round a b c one) (parallel_round a b c x y z h))
    | inl q ↦ elim (zero_or_not c) as (λ _. IsMultiple a b c x y z) [
      | inr some ↦
          multiple_round a b c x y z
          (multiple_round b c a y z x
          (from_first c a b z x y some (primitive_round b c a (primitive_round a b c one)) (parallel_round b c a y z x (parallel_round a b c x y z h))))
      | inl r ↦ absurd (no_way a b c one p q r)
    ]
  ]
]

-- one coordinate of a way without a common divisor is some
pub some_of : (a b c : ℤ) → IsPrimitive a b c → (a ≢ pos 0) ⊎ ((b ≢ pos 0) ⊎ (c ≢ pos 0))
some_of a b c one = elim (zero_or_not a) as (λ _. (a ≢ pos 0) ⊎ ((b ≢ pos 0) ⊎ (c ≢ pos 0))) [
  | inr some ↦ inl some
  | inl p ↦ elim (zero_or_not b) as (λ _. (a ≢ pos 0) ⊎ ((b ≢ pos 0) ⊎ (c ≢ pos 0))) [
    | inr some ↦ inr (inl some)
    | inl q ↦ elim (zero_or_not c) as (λ _. (a ≢ pos 0) ⊎ ((b ≢ pos 0) ⊎ (c ≢ pos 0))) [
      | inr some ↦ inr (inr some)
      | inl r ↦ absurd (no_way a b c one p q r)
    ]
  ]
]

-- of two such ways in one direction each is the other, or the opposite
pub same_size : (k a b c : ℤ) → IsPrimitive (k *ℤ a) (k *ℤ b) (k *ℤ c) → unsigned_abs k ∣ 1
same_size k a b c one =
    let size : ℤ → ℕ = unsigned_abs in
    let divides : (t : ℤ) → size k ∣ size (k *ℤ t) = λ t. subst (λ s. size k ∣ s) (mul_comm (size t) (size k) ∙ sym (unsigned_abs-mul k t)) (dvd-mul_left (size k) (size t)) in
    one.most (size k) (divides a) (divides b) (divides c)
