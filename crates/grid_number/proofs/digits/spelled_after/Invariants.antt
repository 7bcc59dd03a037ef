use Rattle.std.proofs.Common.{◌≡◌, take}
use Rattle.text_terms.specs.Numbers.{value_from}
use Rattle.grid_number.specs.Reading.{saturated}
use Rattle.grid_number.proofs.digits.spelled_after.Given as goal

abbrev pub invariant-loop-digit : goal.invariant-loop-digit
invariant-loop-digit l = l.value ≡ saturated (value_from l.fn.before (take l.digit-index l.digits))
