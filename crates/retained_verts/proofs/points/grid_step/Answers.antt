use Rattle.std.proofs.Common.{arith, ◌≡◌, ◌∙◌, ◌^◌, ◌≤◌, ℕ, ℤ, pos, negsuc, FitsSigned, w32, w64, to_z, of_z, refl, ap, unsigned_abs}
use Rattle.std.specs.Int.{cast_unsigned, int_div_euclid, int_shr, trailing_zeros}
use Rattle.std.proofs.lemmas.Int.{ints, to_z-of_z}
use Rattle.mb_base.specs.declared.TheConstants.{UNIT}
use Rattle.side_terms.specs.Fine.{IsFine}
use Rattle.retained_verts.proofs.points.grid_step.Goals as goal
use lib.Count.{count_trailing_zeros}

-- a shift is the quotient by a power of two, rounded down
shift_divides : (z : ℤ) (k : ℕ) → int_shr z k ≡ int_div_euclid z (pos (2 ^ k))
shift_divides (pos a) k = refl
shift_divides (negsuc a) k = refl

-- the unit is a power of two
power : pos (2 ^ trailing_zeros w64 (cast_unsigned w64 UNIT)) ≡ UNIT
unfolding count_trailing_zeros
power = refl

-- the grid step of a fine coordinate is small
small : (z : ℤ) → IsFine z → unsigned_abs (int_div_euclid z UNIT) ≤ 2 ^ 30
small (pos a) fine = omega (arith, ints, fine.low, fine.high)
small (negsuc a) fine = omega (arith, ints, fine.low, fine.high)

-- so it is what a shift gives, kept in 64 bits and in 32
shifted : (z : ℤ) (k : ℕ) → IsFine z → k ≡ trailing_zeros w64 (cast_unsigned w64 UNIT) → to_z w64 (of_z w64 (int_shr (to_z w64 (of_z w64 z)) k)) ≡ int_div_euclid z UNIT
shifted z k fine e =
    let fits : FitsSigned w64 z = omega (arith, ints, fine.low, fine.high) in
    let s : int_shr (to_z w64 (of_z w64 z)) k ≡ int_div_euclid z UNIT =
    ap (λ y. int_shr y k) (to_z-of_z w64 z fits) ∙ shift_divides z k ∙ ap (λ n. int_div_euclid z (pos (2 ^ n))) e ∙ ap (int_div_euclid z) power in
    let short : FitsSigned w64 (int_div_euclid z UNIT) = omega (arith, ints, small z fine) in
    ap (λ y. to_z w64 (of_z w64 y)) s ∙ to_z-of_z w64 (int_div_euclid z UNIT) short

pub overflow_cast-result-2 : goal.overflow_cast-result-2
overflow_cast-result-2 c =
    let s = shifted c.args.coordinate c.trailing_zeros.result c.requires c.trailing_zeros.ensures in
    omega (arith, ints, s, small c.args.coordinate c.requires)

pub returns : goal.returns
returns c =
    let z = c.args.coordinate in
    let s = shifted z c.trailing_zeros.result c.requires c.trailing_zeros.ensures in
    let short : FitsSigned w32 (int_div_euclid z UNIT) = omega (arith, ints, small z c.requires) in
    let value = ap (λ y. to_z w32 (of_z w32 y)) s ∙ to_z-of_z w32 (int_div_euclid z UNIT) short in
    record { value = value; on_grid = omega (arith, ints, value, small z c.requires) }
