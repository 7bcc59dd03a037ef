-- Tests of two numbers, by what holds of these.
use Rattle.std.proofs.Common.{◌≡◌, ◌≢◌, ℕ, ◌<◌, ◌≤◌, ◌==◌, nat_lt, true, false, arith}
use Rattle.std.proofs.lemmas.Bool.Decides.{nat_tests}

-- a number is itself, and no other
pub same : (m : ℕ) → (m == m) ≡ true
same m = grind (arith, nat_tests)

pub is_same : (m n : ℕ) → m ≡ n → (m == n) ≡ true
is_same m n e = grind (arith, nat_tests, e)

pub not_same : (m n : ℕ) → m ≢ n → (m == n) ≡ false
not_same m n d = grind (arith, nat_tests, d)

-- it is below another, or not
pub is_below : (m n : ℕ) → m < n → nat_lt m n ≡ true
is_below m n h = grind (arith, nat_tests, h)

pub not_below : (m n : ℕ) → n ≤ m → nat_lt m n ≡ false
not_below m n h = grind (arith, nat_tests, h)
