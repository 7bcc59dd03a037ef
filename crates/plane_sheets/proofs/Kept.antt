-- Numbers as they stand after they were kept at so many bits.
use Rattle.std.proofs.Common.{arith, ◌≡◌, ◌≤◌, ◌^◌, ℤ, ◌+ℤ◌, ◌-ℤ◌, unsigned_abs, to_z, of_z, ap, ◌∙◌}
use Rattle.std.proofs.lemmas.Int.{ints}
use Rattle.std.specs.Int.{w64, w128}
use Rattle.sheet_terms.specs.Numbers.{first_of_three}

-- at 64 bits, and at 128
abbrev pub kept : ℤ → ℤ
kept z = to_z w64 (of_z w64 z)

abbrev pub kept_wide : ℤ → ℤ
kept_wide z = to_z w128 (of_z w128 z)

-- one that fits stays
pub kept_same : (z : ℤ) → unsigned_abs z ≤ 2 ^ 62 → kept z ≡ z
kept_same z h = omega (arith, ints, h)

-- so do a sum and a difference of such
pub kept_sum : (p q : ℤ) → unsigned_abs p ≤ 2 ^ 64 → unsigned_abs q ≤ 2 ^ 64 → kept_wide (kept_wide p +ℤ kept_wide q) ≡ p +ℤ q
kept_sum p q h k = omega (arith, ints, h, k)

pub kept_difference : (p q : ℤ) → unsigned_abs p ≤ 2 ^ 64 → unsigned_abs q ≤ 2 ^ 64 → kept_wide (kept_wide p -ℤ kept_wide q) ≡ p -ℤ q
kept_difference p q h k = omega (arith, ints, h, k)

-- a step between coordinates, as the code reads it
pub step_read : (m f t f' t' : ℤ) → m ≡ kept t -ℤ kept f → f ≡ f' → t ≡ t' → unsigned_abs f ≤ 2 ^ 30 → unsigned_abs t ≤ 2 ^ 30 → kept m ≡ t' -ℤ f'
step_read m f t f' t' e d g h k = omega (arith, ints, e, d, g, h, k)

-- widened
pub wide_read : (r m x : ℤ) → r ≡ kept m → kept m ≡ x → unsigned_abs x ≤ 2 ^ 33 → kept_wide r ≡ x
wide_read r m x e f h = omega (arith, ints, e, f, h)

-- the first of three is that of equal numbers
pub first_same : (x y z x' y' z' : ℤ) → x ≡ x' → y ≡ y' → z ≡ z' → first_of_three x y z ≡ first_of_three x' y' z'
first_same x y z x' y' z' e f g = ap (λ t. first_of_three t y z) e ∙ ap (λ t. first_of_three x' t z) f ∙ ap (λ t. first_of_three x' y' t) g
