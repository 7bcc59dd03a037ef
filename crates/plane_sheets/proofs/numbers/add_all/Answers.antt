use Rattle.std.proofs.Common.{arith, ◌≡◌, ◌<◌, ◌^◌, ◌*ℤ◌, get_or, take, unsigned_abs, refl, sym, ap, subst}
use Rattle.std.proofs.lemmas.Int.{ints}
use Rattle.plane_sheets.specs.Crossed.{times}
use Rattle.plane_sheets.specs.Sides.{RiseFrom, lefts, rights, size_held}
use Rattle.plane_sheets.proofs.Adding.{in_so_far, no_number, size_next, times_less}
use Rattle.plane_sheets.proofs.Held.{rise-all_in, size_held-all_in}
use Rattle.plane_sheets.proofs.Kept.{kept}
use Rattle.plane_sheets.proofs.numbers.add_all.Goals as goal

pub signed-x-requires : goal.signed-x-requires
signed-x-requires c = omega (arith, ints, size_next c.args.numbers.now c.loop-each.each-index c.loop-each-test.true, c.requires.left_fits)

pub signed-y-requires : goal.signed-y-requires
signed-y-requires c = omega (arith, ints, size_next c.args.numbers.now c.loop-each.each-index c.loop-each-test.true, c.requires.left_fits)

pub add-requires-clause-rise : goal.add-requires-clause-rise
add-requires-clause-rise c =
    subst (RiseFrom 0) (sym c.loop-each.invariant.left)
    (rise-all_in (times c.args.left) (take c.loop-each.each-index c.args.numbers.now) (lefts c.args.sides.now.items) c.requires.rise)

pub add-requires-clause-left_fits : goal.add-requires-clause-left_fits
add-requires-clause-left_fits c =
    let ns = c.args.numbers.now in
    let i = c.loop-each.each-index in
    let room = size_next ns i c.loop-each-test.true in
    let fits : unsigned_abs (get_or ns i no_number).number < 2 ^ 63 = omega (arith, room, c.requires.left_fits) in
    let so = size_held-all_in (times c.args.left) (times_less c.args.left) (take i ns) (lefts c.args.sides.now.items) in
    omega (arith, ints, room, fits, so, ap size_held c.loop-each.invariant.left, c.signed-x.ensures.small, c.requires.left_fits)

pub add-requires-clause-right_fits : goal.add-requires-clause-right_fits
add-requires-clause-right_fits c =
    let ns = c.args.numbers.now in
    let i = c.loop-each.each-index in
    let room = size_next ns i c.loop-each-test.true in
    let fits : unsigned_abs (get_or ns i no_number).number < 2 ^ 63 = omega (arith, room, c.requires.right_fits) in
    let so = size_held-all_in (times c.args.right) (times_less c.args.right) (take i ns) (rights c.args.sides.now.items) in
    omega (arith, ints, room, fits, so, ap size_held c.loop-each.invariant.right, c.signed-y.ensures.small, c.requires.right_fits)

pub loop-each-preserved : goal.loop-each-preserved
loop-each-preserved c =
    let ns = c.args.numbers.now in
    let i = c.loop-each.each-index in
    let below = c.loop-each-test.true in
    let room = size_next ns i below in
    let kn : kept (get_or ns i no_number).number ≡ (get_or ns i no_number).number = omega (arith, ints, room, c.requires.left_fits) in
    let lx : kept c.signed-x.result ≡ c.signed-x.result = omega (arith, ints, c.signed-x.type_inv) in
    let left_value : kept c.signed-x.result ≡ (get_or ns i no_number).number *ℤ times c.args.left = cc in
    let rx : kept c.signed-y.result ≡ c.signed-y.result = omega (arith, ints, c.signed-y.type_inv) in
    let right_value : kept c.signed-y.result ≡ (get_or ns i no_number).number *ℤ times c.args.right = cc in
    record {
      left = in_so_far (times c.args.left) ns i (kept c.signed-x.result) (lefts c.args.sides.now.items) (lefts c.loop-each.sides.items) _ (get_or ns i no_number).label below
          c.loop-each.invariant.left refl left_value c.in_ok-add.ensures.left;
      right = in_so_far (times c.args.right) ns i (kept c.signed-y.result) (rights c.args.sides.now.items) (rights c.loop-each.sides.items) _ (get_or ns i no_number).label below
          c.loop-each.invariant.right refl right_value c.in_ok-add.ensures.right;
    }
