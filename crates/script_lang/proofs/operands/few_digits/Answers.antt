use Rattle.std.proofs.Common.{ℕ, ◌<◌, ◌≤◌, ◌^◌, arith, rules}
use Rattle.std.proofs.Math.Nat.{pow-le-pow_right}
use Rattle.script_lang.proofs.operands.few_digits.Goals as goal

-- what six digits at most spell
few_spell : (v i : ℕ) → v < 10 ^ i → i < 7 → v < 1000000
few_spell v i small few =
    let most : 10 ^ i ≤ 10 ^ 6 = pow-le-pow_right {n = 10} (omega arith) {i = i} {j = 6} (omega arith) in
    omega (arith, most)

pub overflow_mul-value : goal.overflow_mul-value
overflow_mul-value c =
    let small = few_spell c.loop-digit.value c.loop-digit.digit-index c.loop-digit.invariant.small (search rules) in
    search (rules, small)

pub overflow_add-value : goal.overflow_add-value
overflow_add-value c =
    let small = few_spell c.loop-digit.value c.loop-digit.digit-index c.loop-digit.invariant.small (search rules) in
    search (rules, small)
