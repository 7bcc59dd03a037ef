use Rattle.std.proofs.Common.{◌≡◌, ◌<◌, ◌≤◌, ◌^◌}
use Rattle.grid_number.proofs.KeptDigits.{kept_digits}
use Rattle.grid_number.proofs.write.without_last_zeros.Given as goal

-- what is left has the same digits but for the zeros
abbrev pub invariant-loop-left : goal.invariant-loop-left
invariant-loop-left l = record {
  some : 0 < l.left;
  below : l.left < 10 ^ l.places;
  fewer : l.places ≤ l.digits;
  same : kept_digits l.places l.left ≡ kept_digits l.digits l.rest;
}

abbrev pub decreases-loop-left : goal.decreases-loop-left
decreases-loop-left l = l.places
