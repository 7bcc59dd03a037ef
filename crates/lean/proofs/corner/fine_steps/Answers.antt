use Rattle.std.proofs.Common.{◌≤◌, ◌^◌, ℤ, ◌*ℤ◌, unsigned_abs, FitsSigned, arith, rules}
use Rattle.std.specs.Int.{w32, w64}
use Rattle.std.proofs.lemmas.Int.{ints, to_z-of_z, unsigned_abs-mul}
use Rattle.std.proofs.lemmas.Nat.{mul-le}
use Rattle.mb_base.proofs.Widths.{same_at}
use Rattle.lean.proofs.corner.fine_steps.Goals as goal

-- so many fine steps fit
small : (unit z : ℤ) → unsigned_abs unit ≤ 256 → unsigned_abs z ≤ 2 ^ 31 → unsigned_abs (unit *ℤ z) ≤ 2 ^ 39
small unit z h k = rw (unsigned_abs-mul unit z) (omega (arith, mul-le (unsigned_abs unit) (unsigned_abs z) 256 (2 ^ 31) h k))

pub returns : goal.returns
returns c =
    let unit = c.args.unit in
    let z = c.args.coordinate in
    let fits : FitsSigned w32 z = search rules in
    let k : unsigned_abs z ≤ 2 ^ 31 = omega (arith, ints, fits) in
    rw (to_z-of_z w32 z fits, same_at w64 z (2 ^ 31) k (omega arith), same_at w64 unit 256 c.requires (omega arith))
    (same_at w64 (unit *ℤ z) (2 ^ 39) (small unit z c.requires k) (omega arith))
