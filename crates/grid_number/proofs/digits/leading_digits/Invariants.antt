use Rattle.std.proofs.Common.{◌≡◌, IsTrue, take}
use Rattle.text_terms.specs.Numbers.{all_digits, value_from}
use Rattle.grid_number.specs.Reading.{saturated}
use Rattle.grid_number.proofs.digits.leading_digits.Given as goal

abbrev pub invariant-loop-place : goal.invariant-loop-place
invariant-loop-place l = record {
  digits : IsTrue (all_digits (take l.place l.text));
  value : l.value ≡ saturated (value_from l.fn.before (take l.place l.text));
}
