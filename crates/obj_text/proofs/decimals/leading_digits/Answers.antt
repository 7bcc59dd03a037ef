use Rattle.std.proofs.Common.{◌≡◌, ◌<◌, ◌-◌, true, get_or, length, rules, arith}
use Rattle.text_terms.specs.Numbers.{is_digit}
use Rattle.grid_number.proofs.Saturated.{all_digits-step}
use Rattle.obj_text.proofs.DigitSteps.{spelled-step, below-step}
use Rattle.obj_text.proofs.decimals.leading_digits.Goals as goal

pub loop-count-preserved : goal.loop-count-preserved
loop-count-preserved c =
    let inside : c.loop-count.count < length c.args.text.now = search rules in
    let small : c.digit_of-digit.result < 10 = search rules in
    let digit : is_digit (get_or c.args.text.now c.loop-count.count 0) ≡ true = c.digit_of-digit.ensures.digit small in
    let value : c.digit_of-digit.result ≡ get_or c.args.text.now c.loop-count.count 0 - 48 = c.digit_of-digit.ensures.value small in
    record {
      within = omega (arith, c.loop-count-test.true);
      digits = all_digits-step c.loop-count.count c.args.text.now inside c.loop-count.invariant.digits digit;
      spelled = rw value (spelled-step c.args.before c.loop-count.value c.loop-count.count c.args.text.now inside c.loop-count.invariant.spelled);
      below = below-step c.loop-count.value c.loop-count.count c.digit_of-digit.result c.loop-count.invariant.below small;
    }
