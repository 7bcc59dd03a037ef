-- The floor of a quotient: its two bounds, and what bounds it.
use Rattle.std.specs.Prelude.{◌≡◌, ℕ, ◌+◌, ◌*◌, ◌<◌, ◌≤◌, ℤ, pos, negsuc, ◌+ℤ◌, ◌*ℤ◌, ◌≤ℤ◌, ◌<ℤ◌}
use Rattle.std.specs.Int.{int_div_euclid}
use Rattle.std.proofs.Common.{arith, ap}
use Rattle.std.proofs.Math.Nat.{mul-le-mul_right}
use Rattle.std.proofs.lemmas.Int.{ints, by_lt_z}
use borrow.Author.Differences.{up, down, sum_is_lem}

-- the floor times the divisor is at most the number
pub floor_low : (z : ℤ) (d : ℕ) → 0 < d → (int_div_euclid z (pos d) *ℤ pos d) ≤ℤ z
floor_low (pos n) d p = omega (arith, ints)
floor_low (negsuc n) d p = omega (arith, ints)

-- and the number is less than one divisor above
pub floor_high : (z : ℤ) (d : ℕ) → 0 < d → z <ℤ (int_div_euclid z (pos d) *ℤ pos d +ℤ pos d)
floor_high (pos n) d p = omega (arith, ints)
floor_high (negsuc n) d p = omega (arith, ints)

-- a product with a sum is the sum of the products
distrib : (a b c : ℤ) → (a +ℤ b) *ℤ c ≡ a *ℤ c +ℤ b *ℤ c
distrib a b c =
    let s = sum_is_lem a b in
    omega (arith, ints, ap (λ (n : ℕ). n * up c) s, ap (λ (n : ℕ). n * down c) s)

-- a product with a number keeps an order
times_le : (a b : ℤ) (d : ℕ) → a ≤ℤ b → (a *ℤ pos d) ≤ℤ (b *ℤ pos d)
times_le a b d h =
    let s : up a + down b ≤ up b + down a = omega (arith, ints) in
    omega (arith, ints, mul-le-mul_right d s)

-- a number above the floor's, by its product
pub floor_at_most : (z w : ℤ) (d : ℕ) → 0 < d → z <ℤ (w *ℤ pos d +ℤ pos d) → int_div_euclid z (pos d) ≤ℤ w
floor_at_most z w d p h =
    let q = int_div_euclid z (pos d) in
    let low = floor_low z d p in
    by_lt_z w q
    (λ l.
    let step : (w +ℤ pos 1) ≤ℤ q = omega (arith, ints) in
    let more : (w *ℤ pos d +ℤ pos d) ≤ℤ (q *ℤ pos d) =
    let t = times_le (w +ℤ pos 1) q d step in let e = distrib w (pos 1) (pos d) in omega (arith, ints, t, e) in
    absurd (omega (arith, ints)))
    (λ l. l)

-- a number below the floor's, by its product
pub floor_at_least : (z w : ℤ) (d : ℕ) → 0 < d → (w *ℤ pos d) ≤ℤ z → w ≤ℤ int_div_euclid z (pos d)
floor_at_least z w d p h =
    let q = int_div_euclid z (pos d) in
    let high = floor_high z d p in
    by_lt_z q w
    (λ l.
    let step : (q +ℤ pos 1) ≤ℤ w = omega (arith, ints) in
    let more : (q *ℤ pos d +ℤ pos d) ≤ℤ (w *ℤ pos d) =
    let t = times_le (q +ℤ pos 1) w d step in let e = distrib q (pos 1) (pos d) in omega (arith, ints, t, e) in
    absurd (omega (arith, ints)))
    (λ l. l)

-- the floor keeps an order
pub floor_monotone : (y z : ℤ) (d : ℕ) → 0 < d → y ≤ℤ z → int_div_euclid y (pos d) ≤ℤ int_div_euclid z (pos d)
floor_monotone y z d p h = let low = floor_low y d p in floor_at_least z (int_div_euclid y (pos d)) d p (omega (arith, ints))
