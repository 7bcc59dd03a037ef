-- Steps and turns as code shows them.
use Rattle.std.proofs.Common.{◌≡◌, ◌≤◌, ◌^◌, ℤ, arith, ◌-ℤ◌}
use Rattle.std.specs.Prelude.{unsigned_abs}
use Rattle.std.proofs.lemmas.Int.{ints}
use Rattle.mesh_terms.specs.Points.{IsOnGrid}
use Rattle.plane_chains.proofs.PartWays.{as_64, as_128}

-- a step between coordinates
pub step_shown : (s f t x y : ℤ) → s ≡ as_64 t -ℤ as_64 f → f ≡ x → t ≡ y → IsOnGrid f → IsOnGrid t → as_64 s ≡ y -ℤ x
step_shown s f t x y e g h low high = omega (arith, ints, e, g, h, low, high)

-- a difference of small numbers
pub difference_shown : (d x y : ℤ) → d ≡ as_128 x -ℤ as_128 y → unsigned_abs x ≤ 2 ^ 62 → unsigned_abs y ≤ 2 ^ 62 → as_128 d ≡ x -ℤ y
difference_shown d x y e h k = omega (arith, ints, e, h, k)

pub difference_small : (d x y : ℤ) → d ≡ as_128 x -ℤ as_128 y → unsigned_abs x ≤ 2 ^ 62 → unsigned_abs y ≤ 2 ^ 62 → unsigned_abs (as_128 d) ≤ 2 ^ 64
difference_small d x y e h k = omega (arith, ints, e, h, k)
