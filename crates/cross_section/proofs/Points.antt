-- Points of spots.
use Rattle.std.proofs.Common.{◌≡◌, ◌^◌, ℤ, pos, neg_ℤ, arith}
use Rattle.std.specs.Prelude.{◌*ℤ◌, ◌≤ℤ◌}
use Rattle.std.proofs.lemmas.Int.{ints}
use Rattle.mb_base.specs.declared.TheConstants.{UNIT}
use Rattle.mesh_terms.specs.Points.{IsOnGrid}
use Rattle.side_terms.specs.Fine.{IsFine}

-- what settling keeps: the order, and whole numbers of steps
pub record IsSettling (settle : ℤ → ℤ) : Type 0 where
  pub monotone : (f g : ℤ) → IsFine f → IsFine g → f ≤ℤ g → settle f ≤ℤ settle g
  pub units : (k : ℤ) → IsFine (UNIT *ℤ k) → settle (UNIT *ℤ k) ≡ k

-- a fine value settles to a coordinate of the grid
pub settled_grid : (settle : ℤ → ℤ) → IsSettling settle → (z : ℤ) → IsFine z → IsOnGrid (settle z)
settled_grid settle s z fz =
    let top : IsFine (UNIT *ℤ pos (2 ^ 30)) = record { low = omega (arith, ints); high = omega (arith, ints) } in
    let bottom : IsFine (UNIT *ℤ neg_ℤ (pos (2 ^ 30))) = record { low = omega (arith, ints); high = omega (arith, ints) } in
    let high = s.monotone z (UNIT *ℤ pos (2 ^ 30)) fz top (omega (arith, ints, fz.high)) in
    let low = s.monotone (UNIT *ℤ neg_ℤ (pos (2 ^ 30))) z bottom fz (omega (arith, ints, fz.low)) in
    omega (arith, ints, high, low, s.units (pos (2 ^ 30)) top, s.units (neg_ℤ (pos (2 ^ 30))) bottom)
