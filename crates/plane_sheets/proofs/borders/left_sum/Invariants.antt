use Rattle.std.proofs.Common.{◌≡◌, ◌≤◌, take, unsigned_abs}
use Rattle.plane_sheets.specs.Sides.{all_held, lefts, size_held}
use Rattle.plane_sheets.proofs.borders.left_sum.Given as goal

abbrev pub invariant-loop-each : goal.invariant-loop-each
invariant-loop-each l = record {
  value : l.sum ≡ all_held (lefts (take l.each-index l.sides));
  small : unsigned_abs l.sum ≤ size_held (lefts (take l.each-index l.sides));
}
