use Rattle.std.proofs.Common.{◌≡◌, ◌≤◌, ◌^◌, rules, arith, ◌∙◌, to_z, of_z}
use Rattle.std.specs.Int.{w32}
use Rattle.obj_text.specs.Plain.{BeginsSize}
use Rattle.obj_text.proofs.ShortNumbers.{begins_short}
use Rattle.obj_text.proofs.decimals.short_coordinate.Goals as goal

pub returns : goal.returns
returns c =
    let sized : BeginsSize c.args.digits c.minus_first-negative.result.1.now c.in_ok-size.size c.in_ok-size.rest.now = search rules in
    let on : c.in_ok-size.size ≤ 2 ^ 30 = omega (arith, c.if-size-gt-END.false) in
    let same : to_z w32 (of_z w32 c.under_sign.result) ≡ c.under_sign.result = search rules in
    begins_short c.args.digits c.in_ok-size.size c.minus_first-negative.result.0 (to_z w32 (of_z w32 c.under_sign.result)) c.args.text.now
    c.minus_first-negative.result.1.now c.in_ok-size.rest.now c.minus_first-negative.ensures.sign c.minus_first-negative.ensures.rest sized on (same ∙ c.under_sign.ensures)
