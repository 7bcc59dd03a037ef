use Rattle.std.proofs.Common.{arith, ◌≡◌, ◌≤◌, ◌^◌, ℤ, ◌*ℤ◌, unsigned_abs}
use Rattle.std.proofs.lemmas.Int.{unsigned_abs-mul}
use Rattle.std.proofs.lemmas.Nat.{mul-le}
use Rattle.std.specs.Int.{w64, w128, cast_signed, cast_unsigned}
use Rattle.mb_base.proofs.Widths.{fits_at, same_at}
use Rattle.mb_base.proofs.cross_product.product.Goals as goal

-- a step as it stands after it was kept at 64 bits and then at 128
abbrev widened : ℤ → ℤ
widened x = cast_signed w128 (cast_unsigned w128 (cast_signed w64 (cast_unsigned w64 x)))

widened_same : (x : ℤ) → unsigned_abs x ≤ 2 ^ 31 → widened x ≡ x
widened_same x small = rw (same_at w64 x (2 ^ 31) small (omega arith)) (same_at w128 x (2 ^ 31) small (omega arith))

-- the product of steps is small
product_small : (x y : ℤ) → unsigned_abs x ≤ 2 ^ 31 → unsigned_abs y ≤ 2 ^ 31 → unsigned_abs (x *ℤ y) ≤ 2 ^ 62
product_small x y h k = rw (unsigned_abs-mul x y) (omega (arith, mul-le (unsigned_abs x) (unsigned_abs y) (2 ^ 31) (2 ^ 31) h k))

pub overflow_mul-result : goal.overflow_mul-result
overflow_mul-result c =
    let h = c.requires.x_small in
    let k = c.requires.y_small in
    rw (widened_same c.args.x h, widened_same c.args.y k) (fits_at w128 (c.args.x *ℤ c.args.y) (2 ^ 62) (product_small c.args.x c.args.y h k) (omega arith))

pub returns-clause-value : goal.returns-clause-value
returns-clause-value c =
    let h = c.requires.x_small in
    let k = c.requires.y_small in
    rw (widened_same c.args.x h, widened_same c.args.y k) (same_at w128 (c.args.x *ℤ c.args.y) (2 ^ 62) (product_small c.args.x c.args.y h k) (omega arith))

pub returns-clause-small : goal.returns-clause-small
returns-clause-small c = rw (returns-clause-value c) (product_small c.args.x c.args.y c.requires.x_small c.requires.y_small)
