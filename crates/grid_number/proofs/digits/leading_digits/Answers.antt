use Rattle.std.proofs.Common.{rules, ◌≡◌, true, get_or}
use Rattle.text_terms.specs.Numbers.{is_digit}
use Rattle.grid_number.proofs.Saturated.{saturated-step, all_digits-step}
use Rattle.grid_number.proofs.digits.leading_digits.Goals as goal

pub loop-place-preserved : goal.loop-place-preserved
loop-place-preserved c =
    let digit : is_digit (get_or c.args.text.now c.loop-place.place 0) ≡ true = search rules in
    record {
      digits = all_digits-step c.loop-place.place c.args.text.now c.loop-place-test.true c.loop-place.invariant.digits
          digit;
      value = saturated-step c.args.before c.loop-place.place c.appended-value.result c.args.text.now
          c.loop-place.value c.loop-place-test.true c.loop-place.invariant.value c.appended-value.ensures;
    }
