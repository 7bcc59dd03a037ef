use Rattle.std.proofs.Common.{◌≡◌, ◌≤◌, take, unsigned_abs}
use Rattle.plane_sheets.specs.Sides.{all_held, rights, size_held}
use Rattle.plane_sheets.proofs.borders.right_sum.Given as goal

abbrev pub invariant-loop-each : goal.invariant-loop-each
invariant-loop-each l = record {
  value : l.sum ≡ all_held (rights (take l.each-index l.sides));
  small : unsigned_abs l.sum ≤ size_held (rights (take l.each-index l.sides));
}
