-- The lesser and the greater of two numbers of the grid are on the grid.
use Rattle.std.specs.Prelude.{◌≡◌, ℤ, ◌≤ℤ◌, ◌<ℤ◌}
use Rattle.std.specs.Int.{int_max, int_min}
use Rattle.std.proofs.Common.{arith, subst, sym}
use Rattle.std.proofs.lemmas.Int.{by_lt_z, ints}
use Rattle.mesh_terms.specs.Points.{IsOnGrid}

min_first : (a b : ℤ) → a <ℤ b → int_min a b ≡ a
min_first a b h = grind (arith, ints)

min_second : (a b : ℤ) → b ≤ℤ a → int_min a b ≡ b
min_second a b h = grind (arith, ints)

max_first : (a b : ℤ) → b ≤ℤ a → int_max a b ≡ a
max_first a b h = grind (arith, ints)

max_second : (a b : ℤ) → a <ℤ b → int_max a b ≡ b
max_second a b h = grind (arith, ints)

pub min_on : (a b : ℤ) → IsOnGrid a → IsOnGrid b → IsOnGrid (int_min a b)
min_on a b ha hb = by_lt_z a b (λ l. subst IsOnGrid (sym (min_first a b l)) ha) (λ l. subst IsOnGrid (sym (min_second a b l)) hb)

pub max_on : (a b : ℤ) → IsOnGrid a → IsOnGrid b → IsOnGrid (int_max a b)
max_on a b ha hb = by_lt_z a b (λ l. subst IsOnGrid (sym (max_second a b l)) hb) (λ l. subst IsOnGrid (sym (max_first a b l)) ha)
