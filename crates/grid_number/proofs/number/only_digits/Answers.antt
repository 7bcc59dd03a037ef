use Rattle.std.proofs.Common.{rules, ◌≡◌, ◌<◌, length, Bool, false, Some, None, if◌then◌else◌, sym, ap, ◌∙◌}
use Rattle.text_terms.specs.Numbers.{is_digits, digits_value}
use Rattle.grid_number.specs.Reading.{saturated}
use Rattle.grid_number.proofs.Cuts.{is_digits-broken}
use Rattle.grid_number.proofs.number.only_digits.Goals as goal

pub returns-then-not-is_empty : goal.returns-then-not-is_empty
returns-then-not-is_empty c =
    let r = c.leading_digits-run.result in
    let some : 0 < length r.rest.now = search rules in
    let broken : is_digits c.args.text.now ≡ false = ap is_digits c.leading_digits-run.ensures.split
    ∙ is_digits-broken r.digits.now r.rest.now some c.leading_digits-run.ensures.ends in
    sym (ap (λ (b : Bool). if b then Some (saturated (digits_value c.args.text.now)) else None) broken)
