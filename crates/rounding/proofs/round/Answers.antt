use Rattle.std.proofs.Common.{rules, arith, ◌≡◌, ℤ, pos, ◌*ℤ◌, ◌+ℤ◌, FitsSigned}
use Rattle.std.proofs.lemmas.Int.{ints}
use Rattle.std.specs.Int.{Width, w64, w128, int_div_euclid, cast_signed, cast_unsigned}
use Rattle.rounding.specs.Nearest.{rounded}
use Rattle.rounding.proofs.round.Goals as goal

-- a number as it stands after it was kept at a width
abbrev seen : Width → ℤ → ℤ
seen w z = cast_signed w (cast_unsigned w z)

-- a quotient of equal numbers
same_div : (r x x' y y' : ℤ) → r ≡ int_div_euclid x y → x ≡ x' → y ≡ y' → r ≡ int_div_euclid x' y'
same_div r x x' y y' e f g = cc

divided : (c : goal.After-div_euclid) → c.div_euclid.result ≡ rounded c.args.n c.args.d
divided c =
    let n = c.args.n in
    let d = c.args.d in
    let x = seen w128 (seen w128 (pos 2 *ℤ seen w128 n) +ℤ seen w128 (seen w64 d)) in
    let y = seen w128 (pos 2 *ℤ seen w128 (seen w64 d)) in
    same_div c.div_euclid.result x (pos 2 *ℤ n +ℤ d) y (pos 2 *ℤ d) c.div_euclid.ensures (omega (arith, ints)) (omega (arith, ints))

pub overflow_cast-result : goal.overflow_cast-result
overflow_cast-result c =
    let q = divided c in
    let f : FitsSigned w128 c.div_euclid.result = search rules in
    omega (arith, ints)

pub returns : goal.returns
returns c =
    let q = divided c in
    let f : FitsSigned w128 c.div_euclid.result = search rules in
    omega (arith, ints)
