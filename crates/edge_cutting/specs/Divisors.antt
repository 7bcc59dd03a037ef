-- The greatest common divisor of three numbers.
use Rattle.std.specs.Prelude.{ℕ}
use Rattle.std.specs.Int.{◌∣◌}

-- it divides all three, and each number that does divides it
pub record IsCommonDivisor (x y z g : ℕ) : Type 0 where
  pub first : g ∣ x
  pub second : g ∣ y
  pub third : g ∣ z
  pub most : (d : ℕ) → d ∣ x → d ∣ y → d ∣ z → d ∣ g
