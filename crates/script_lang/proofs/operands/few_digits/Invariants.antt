use Rattle.std.proofs.Common.{◌≡◌, ◌<◌, ◌^◌, drop}
use Rattle.text_terms.specs.Numbers.{all_digits, digits_value, value_from}
use Rattle.script_lang.proofs.operands.few_digits.Given as goal

-- the digits so far spell the value, and the bytes that are left decide
abbrev pub invariant-loop-digit : goal.invariant-loop-digit
invariant-loop-digit l = record {
  small : l.value < 10 ^ l.digit-index;
  digits : all_digits l.word ≡ all_digits (drop l.digit-index l.word);
  value : digits_value l.word ≡ value_from l.value (drop l.digit-index l.word);
}
