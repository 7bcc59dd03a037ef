-- Numbers from -1 to 1.
use Rattle.std.specs.Prelude.{ℤ, pos, negsuc, neg_ℤ, ◌≤ℤ◌, Bool, true, false, if◌then◌else◌, Option, None, Some}
use Rattle.std.proofs.Common.{arith}
use Rattle.std.proofs.lemmas.Int.{ints}
use Rattle.shadow_kernels.specs.declared.Meet.{Meet}
use Rattle.shadow_kernels.specs.Counts.{count_of, shadow_of}

-- -1, 0 or 1
pub record IsSmall (z : ℤ) : Type 0 where
  pub low : negsuc 0 ≤ℤ z
  pub high : z ≤ℤ pos 1

-- the number the other way is too
pub turned_small : (z : ℤ) → IsSmall z → IsSmall (neg_ℤ z)
turned_small z h = record { low = omega (arith, ints, h.high); high = omega (arith, ints, h.low) }

-- a count is where the law says so, and then the shadow
pub count_small : (o : Option Meet) → (negsuc 0 ≤ℤ count_of o) × (count_of o ≤ℤ pos 1) → IsSmall (count_of o)
count_small o h = record { low = h.0; high = h.1 }

pub shadow_small : (o : Option Meet) → (negsuc 0 ≤ℤ count_of o) × (count_of o ≤ℤ pos 1) → IsSmall (shadow_of o)
shadow_small None h = record { low = h.0; high = h.1 }
shadow_small (Some m) h = by m.above m.count h where
  by : (b : Bool) (n : ℤ) → (negsuc 0 ≤ℤ n) × (n ≤ℤ pos 1) → IsSmall (if b then n else pos 0)
  by true n h = record { low = h.0; high = h.1 }
  by false n h = record { low = omega (arith, ints); high = omega (arith, ints) }
