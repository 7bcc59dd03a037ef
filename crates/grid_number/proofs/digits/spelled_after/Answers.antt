use Rattle.grid_number.proofs.Saturated.{saturated-step, is_digit-at}
use Rattle.grid_number.proofs.digits.spelled_after.Goals as goal

pub appended-value-requires-clause-digit : goal.appended-value-requires-clause-digit
appended-value-requires-clause-digit c = is_digit-at c.args.digits.now c.loop-digit.digit-index c.loop-digit-test.true
    c.requires.digits

pub loop-digit-preserved : goal.loop-digit-preserved
loop-digit-preserved c = saturated-step c.args.before c.loop-digit.digit-index c.appended-value.result
    c.args.digits.now c.loop-digit.value c.loop-digit-test.true c.loop-digit.invariant c.appended-value.ensures
