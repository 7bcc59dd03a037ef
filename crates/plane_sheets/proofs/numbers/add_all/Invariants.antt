use Rattle.std.proofs.Common.{◌≡◌, take}
use Rattle.plane_sheets.specs.Crossed.{times}
use Rattle.plane_sheets.specs.Sides.{all_in, lefts, rights}
use Rattle.plane_sheets.proofs.numbers.add_all.Given as goal

abbrev pub invariant-loop-each : goal.invariant-loop-each
invariant-loop-each l = record {
  left : lefts l.sides.items ≡ all_in (times l.left) (take l.each-index l.numbers) (lefts l.fn.sides.items);
  right : rights l.sides.items ≡ all_in (times l.right) (take l.each-index l.numbers) (rights l.fn.sides.items);
}
