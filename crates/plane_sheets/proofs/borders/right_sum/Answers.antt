use Rattle.std.proofs.Common.{arith, ◌+◌, ◌<◌, ℤ, length}
use Rattle.std.proofs.lemmas.Int.{fits_signed_from_abs, ints}
use Rattle.std.specs.Int.{w64}
use Rattle.plane_sheets.specs.declared.side_numbers.SideNumbers.{SideNumbers}
use Rattle.plane_sheets.proofs.Growing.{held_most, held_next, held_size}
use Rattle.plane_sheets.proofs.borders.right_sum.Goals as goal

pub overflow_add-sum : goal.overflow_add-sum
overflow_add-sum c =
    let f : SideNumbers → ℤ = λ s. s.right in
    let ss = c.args.sides.now in
    let i = c.loop-each.each-index in
    let below : i < length ss = c.loop-each-test.true in
    let size = held_size f ss i below in
    let most = held_most f ss (i + 1) in
    fits_signed_from_abs w64 _ (omega (arith, ints, size, most, c.loop-each.invariant.small, c.requires))

pub loop-each-preserved : goal.loop-each-preserved
loop-each-preserved c =
    let f : SideNumbers → ℤ = λ s. s.right in
    let ss = c.args.sides.now in
    let i = c.loop-each.each-index in
    let below : i < length ss = c.loop-each-test.true in
    let next = held_next f ss i below in
    let size = held_size f ss i below in
    let most = held_most f ss (i + 1) in
    record {
      value = omega (arith, ints, next, size, most, c.loop-each.invariant.value, c.loop-each.invariant.small, c.requires);
      small = omega (arith, ints, next, size, most, c.loop-each.invariant.value, c.loop-each.invariant.small, c.requires);
    }
