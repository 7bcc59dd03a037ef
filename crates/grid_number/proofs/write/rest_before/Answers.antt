use Rattle.std.proofs.Common.{◌≡◌, ◌≢◌, ◌+◌, ◌==◌, ◌++◌, if◌then◌else◌, Bool, false, ℕ, List, [], length, arith, ap, codes}
use Rattle.text_terms.specs.Written.{written_rest, last_digits, without_zeros}
use Rattle.grid_number.proofs.KeptDigits.{length-last_digits}
use Rattle.grid_number.proofs.write.rest_before.Goals as goal

-- a rest is as long as its point and the digits that are left
long : (k n j m : ℕ) → n ≢ 0 → last_digits j m ≡ without_zeros (last_digits k n) → length (written_rest k n) ≡ j + 1
long k n j m some same =
    let there : (n == 0) ≡ false = grind arith in
    let one = ap (λ (b : Bool). length (if b then [] else codes "." ++ without_zeros (last_digits k n))) there in
    let digits = ap (λ (l : List ℕ). length l) same in
    let size = length-last_digits j m in
    omega (arith, one, digits, size)

pub returns-clause-start : goal.returns-clause-start
returns-clause-start c =
    let kept = c.without_last_zeros-kept in
    let size = long c.args.digits c.args.rest kept.result.1 kept.result.0 c.if-rest-eq0.false kept.ensures.same in
    let start = c.digits_before.ensures.start in
    omega (arith, size, start)
