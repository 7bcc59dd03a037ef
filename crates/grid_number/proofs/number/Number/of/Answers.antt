use Rattle.std.proofs.Common.{rules, ◌≡◌, ◌+◌, ◌*◌, ◌^◌, ◌<◌, ◌≤◌, ◌++◌, IfNone, length, nat_abs, option_map, ℕ, List, sym, subst, ap, ◌∙◌, Option, Some, None, arith, ℤ, to_z, of_z}
use Rattle.std.specs.Int.{w128}
use Rattle.text_terms.specs.Numbers.{number_parts, digits_value, value_from}
use Rattle.grid_number.specs.Reading.{parts_with, saturated, saturated_parts, exponent_after}
use Rattle.grid_number.proofs.Parts.{number_parts-runs, length-runs, no_exponent, parts-none, exponent-within, parts-known}
use Rattle.grid_number.proofs.Saturated.{saturated-value_from}
use Rattle.text_terms.proofs.Digits.{value_from-append}
use Rattle.grid_number.specs.declared.number.Number.{Number}
use Rattle.grid_number.proofs.number.Number.of.Goals as goal

-- what both runs spell
together : (ds fs : List ℕ) (front value : ℕ) → front ≡ saturated (value_from 0 ds) →
    value ≡ saturated (value_from front fs) → value ≡ saturated (digits_value (ds ++ fs))
together ds fs front value front_is value_is =
    value_is ∙ ap (λ (v : ℕ). saturated (value_from v fs)) front_is ∙ saturated-value_from (value_from 0 ds) fs
    ∙ sym (ap saturated (value_from-append 0 ds fs))

pub returns-in_err-exponent-clause-none : goal.returns-in_err-exponent-clause-none
returns-in_err-exponent-clause-none c =
    let whole = c.leading_digits-whole in
    let fraction = c.after_point-fraction in
    let parts = number_parts-runs c.after_sign-negative.result.0 c.args.text.now c.after_sign-negative.result.1.now
    whole.result.digits.now whole.result.rest.now fraction.result.digits.now fraction.result.rest.now
    c.after_sign-negative.ensures whole.ensures.split whole.ensures.digits whole.ensures.ends fraction.ensures.split
    fraction.ensures.digits fraction.ensures.ends in
    let none : number_parts c.args.text.now ≡ None = parts
    ∙ parts-none c.after_sign-negative.result.0 whole.result.digits.now fraction.result.digits.now
    fraction.result.rest.now (no_exponent (exponent_after fraction.result.rest.now) (c.in_err-exponent.ensures)) in
    subst (λ (o : Option Number). IfNone o (number_parts c.args.text.now ≡ None)) (sym c.from_residual.ensures) none

pub invariant_of-result : goal.invariant_of-result
invariant_of-result c =
    let whole = c.leading_digits-whole in
    let fraction = c.after_point-fraction in
    let most : nat_abs c.in_ok-exponent.exponent ≤ 10 * 2 ^ 60 = exponent-within
    (exponent_after fraction.result.rest.now) c.in_ok-exponent.exponent c.in_ok-exponent.ensures in
    let long : length c.args.text.now < 2 ^ 63 = search rules in
    record {
      whole_digits = whole.ensures.digits;
      fraction_digits = fraction.ensures.digits;
      spelled_together = together whole.result.digits.now fraction.result.digits.now whole.result.value
          fraction.result.value whole.ensures.value fraction.ensures.value;
      within = search (rules, most);
      short = omega (
        arith,
        long,
        length-runs c.after_sign-negative.result.0 c.args.text.now c.after_sign-negative.result.1.now
            whole.result.digits.now whole.result.rest.now fraction.result.digits.now fraction.result.rest.now
            c.after_sign-negative.ensures whole.ensures.split fraction.ensures.split,
      );
    }

pub returns-clause-some : goal.returns-clause-some
returns-clause-some c =
    let whole = c.leading_digits-whole in
    let fraction = c.after_point-fraction in
    let parts = number_parts-runs c.after_sign-negative.result.0 c.args.text.now c.after_sign-negative.result.1.now
    whole.result.digits.now whole.result.rest.now fraction.result.digits.now fraction.result.rest.now
    c.after_sign-negative.ensures whole.ensures.split whole.ensures.digits whole.ensures.ends fraction.ensures.split
    fraction.ensures.digits fraction.ensures.ends in
    let some : 0 < length whole.result.digits.now + length fraction.result.digits.now = search rules in
    let same : to_z w128 (of_z w128 c.in_ok-exponent.exponent) ≡ c.in_ok-exponent.exponent = search rules in
    ap (option_map saturated_parts) parts
    ∙ parts-known c.after_sign-negative.result.0 whole.result.digits.now fraction.result.digits.now
    fraction.result.rest.now c.in_ok-exponent.exponent some c.in_ok-exponent.ensures
    ∙ sym (ap (λ (e : ℤ). Some (parts_with c.after_sign-negative.result.0 whole.result.digits.now
    fraction.result.digits.now e)) same)
