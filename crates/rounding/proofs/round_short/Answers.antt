use Rattle.std.proofs.Common.{rules, arith, ◌≡◌, ℤ, pos, ◌*ℤ◌, ◌+ℤ◌, FitsSigned}
use Rattle.std.proofs.lemmas.Int.{ints}
use Rattle.std.specs.Int.{w64, int_div_euclid, cast_signed, cast_unsigned}
use Rattle.rounding.specs.Nearest.{rounded}
use Rattle.rounding.proofs.round_short.Goals as goal

-- a number as it stands after it was kept
abbrev seen : ℤ → ℤ
seen z = cast_signed w64 (cast_unsigned w64 z)

-- a quotient of equal numbers
same_div : (r x x' y y' : ℤ) → r ≡ int_div_euclid x y → x ≡ x' → y ≡ y' → r ≡ int_div_euclid x' y'
same_div r x x' y y' e f g = cc

pub returns : goal.returns
returns c =
    let n = c.args.n in
    let d = c.args.d in
    let x = seen (seen (pos 2 *ℤ seen n) +ℤ seen d) in
    let y = seen (pos 2 *ℤ seen d) in
    let q : c.div_euclid.result ≡ rounded n d = same_div c.div_euclid.result x (pos 2 *ℤ n +ℤ d) y (pos 2 *ℤ d) c.div_euclid.ensures (omega (arith, ints)) (omega (arith, ints)) in
    let f : FitsSigned w64 c.div_euclid.result = search rules in
    omega (arith, ints)
