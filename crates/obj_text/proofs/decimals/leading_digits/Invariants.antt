use Rattle.std.proofs.Common.{◌≡◌, ◌<◌, ◌≤◌, ◌*◌, ◌-◌, ◌^◌, IsTrue, take}
use Rattle.text_terms.specs.Numbers.{all_digits, value_from}
use Rattle.obj_text.proofs.decimals.leading_digits.Given as goal

-- the digits so far are spelled
abbrev pub invariant-loop-count : goal.invariant-loop-count
invariant-loop-count l = record {
  within : l.count ≤ l.end;
  digits : IsTrue (all_digits (take l.count l.text));
  spelled : l.value ≡ value_from l.before (take l.count l.text);
  below : l.value < 1073741825 * 10 ^ l.count;
}

abbrev pub decreases-loop-count : goal.decreases-loop-count
decreases-loop-count l = l.end - l.count
