-- Products of small numbers, as they stand after they were kept at 64 bits.
use Rattle.std.proofs.Common.{arith, ◌≡◌, ◌≤◌, ◌^◌, ◌*◌, ℕ, ℤ, ◌-ℤ◌, ◌*ℤ◌, unsigned_abs, to_z, of_z, subst, sym}
use Rattle.std.proofs.lemmas.Int.{ints, unsigned_abs-mul}
use Rattle.std.proofs.lemmas.Nat.{mul-le}
use Rattle.std.specs.Int.{w64}

-- a number as it stands after it was kept at 64 bits
abbrev pub kept : ℤ → ℤ
kept z = to_z w64 (of_z w64 z)

-- one that fits stays
pub kept_same : (z : ℤ) → unsigned_abs z ≤ 2 ^ 62 → kept z ≡ z
kept_same z h = omega (arith, ints, h)

-- the product of two bounded numbers is bounded
pub product_small : (x y : ℤ) (m n : ℕ) → unsigned_abs x ≤ m → unsigned_abs y ≤ n → unsigned_abs (x *ℤ y) ≤ m * n
product_small x y m n h k = subst (λ (t : ℕ). t ≤ m * n) (sym (unsigned_abs-mul x y)) (mul-le (unsigned_abs x) (unsigned_abs y) m n h k)

-- the product of two kept numbers
pub kept_product : (x y : ℤ) → unsigned_abs x ≤ 2 ^ 31 → unsigned_abs y ≤ 2 ^ 31 → kept (kept x *ℤ kept y) ≡ x *ℤ y
kept_product x y h k =
    let e : kept x ≡ x = omega (arith, ints, h) in
    let f : kept y ≡ y = omega (arith, ints, k) in
    rw (e, f) (kept_same (x *ℤ y) (product_small x y (2 ^ 31) (2 ^ 31) h k))

-- the difference of two kept numbers
pub kept_difference : (p q : ℤ) → unsigned_abs p ≤ 2 ^ 60 → unsigned_abs q ≤ 2 ^ 60 → kept (kept p -ℤ kept q) ≡ p -ℤ q
kept_difference p q h k = omega (arith, ints, h, k)

pub difference_small : (p q : ℤ) → unsigned_abs p ≤ 2 ^ 60 → unsigned_abs q ≤ 2 ^ 60 → unsigned_abs (kept (kept p -ℤ kept q)) ≤ 2 ^ 61
difference_small p q h k = omega (arith, ints, h, k)
