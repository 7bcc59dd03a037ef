use Rattle.std.proofs.Common.{◌≡◌, ◌≤◌, min, drop}
use Rattle.text_terms.specs.Numbers.{all_digits, value_from}
use Rattle.obj_text.specs.Items.{most}
use Rattle.obj_text.proofs.items.digits_value.Given as goal

-- the digits so far spell the number, as far as it counts, and the rest decides
abbrev pub invariant-loop-digit : goal.invariant-loop-digit
invariant-loop-digit l = record {
  small : l.number ≤ most;
  digits : all_digits l.word ≡ all_digits (drop l.digit-index l.word);
  value : min (value_from 0 l.word) most ≡ min (value_from l.number (drop l.digit-index l.word)) most;
}
