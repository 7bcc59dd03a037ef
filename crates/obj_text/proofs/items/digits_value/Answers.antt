use Rattle.std.proofs.Common.{◌≡◌, ◌∙◌, rules, arith, add-one, true, get_or, refl}
use Rattle.text_terms.specs.Numbers.{is_digit}
use Rattle.obj_text.specs.Items.{most}
use Rattle.obj_text.proofs.DigitSteps.{value_from-step, all_digits-step}
use Rattle.obj_text.proofs.items.digits_value.Goals as goal

pub loop-digit-preserved : goal.loop-digit-preserved
loop-digit-preserved c =
    let word = c.args.word.now in
    let i = c.loop-digit.digit-index in
    let digit : is_digit (get_or word i 0) ≡ true = search rules in
    record {
      small = search rules;
      digits = c.loop-digit.invariant.digits ∙ all_digits-step i word (omega arith) digit ∙ rw add-one refl;
      value = c.loop-digit.invariant.value ∙ value_from-step most c.loop-digit.number i word (omega arith) ∙ rw add-one (search rules);
    }
