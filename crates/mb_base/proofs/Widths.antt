-- Numbers that keep their value at a width.
use Rattle.std.proofs.Common.{arith, ◌≡◌, ◌≤◌, ◌<◌, ◌^◌, ◌+◌, ℕ, ℤ, ◌-ℤ◌, unsigned_abs, FitsSigned, to_z, of_z}
use mir.Syntax.{Width}
use mir.Val.{hbits}
use Rattle.std.proofs.lemmas.Int.{ints, to_z-of_z, fits_signed_from_abs}

-- a number of at most m fits where m has room
pub fits_at : (w : Width) (z : ℤ) (m : ℕ) → unsigned_abs z ≤ m → m < 2 ^ hbits w → FitsSigned w z
fits_at w z m small room = fits_signed_from_abs w z (omega (arith, small, room))

-- and keeps its value there
pub same_at : (w : Width) (z : ℤ) (m : ℕ) → unsigned_abs z ≤ m → m < 2 ^ hbits w → to_z w (of_z w z) ≡ z
same_at w z m small room = to_z-of_z w z (fits_at w z m small room)

-- a difference of two numbers of at most m, as it stands after each was kept, is that of the numbers
pub same_difference : (w : Width) (p q : ℤ) (m : ℕ) → unsigned_abs p ≤ m → unsigned_abs q ≤ m → m + m < 2 ^ hbits w →
    to_z w (of_z w (to_z w (of_z w p) -ℤ to_z w (of_z w q))) ≡ p -ℤ q
same_difference w p q m h k room =
    rw (same_at w p m h (omega (arith, room)), same_at w q m k (omega (arith, room))) (same_at w (p -ℤ q) (m + m) (omega (arith, ints, h, k)) room)
