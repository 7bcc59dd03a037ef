use Rattle.std.proofs.Common.{pos, arith}
use Rattle.std.proofs.lemmas.Int.{ints}
use Rattle.face_plane.specs.Planes.{turn}
use Rattle.ring_cutting.proofs.Beside.{uncovered, below_of, none_west, none_east}
use Rattle.ring_cutting.proofs.span.lies_beside.Goals as goal

pub returns-then-is_less : goal.returns-then-is_less
returns-then-is_less c = λ y x h.
    let is = c.is_less.ensures in
    let t = c.if-is_less.true in
    uncovered c.args.a c.args.b c.args.c x
    (none_west c.args.a c.args.b c.args.c x (below_of (pos 0) (turn c.args.a c.args.b c.args.c) c.requires)
    (omega (arith, ints, h.east, is.first t, c.u.ensures.value, c.u-2.ensures.value))
    (omega (arith, ints, h.east, is.second t, c.u.ensures.value, c.u-3.ensures.value))
    (omega (arith, ints, h.east, is.third t, c.u.ensures.value, c.u-4.ensures.value)))

pub returns-else-is_less : goal.returns-else-is_less
returns-else-is_less c = λ y x h.
    let is = c.is_more.ensures in
    uncovered c.args.a c.args.b c.args.c x
    (none_east c.args.a c.args.b c.args.c x (below_of (pos 0) (turn c.args.a c.args.b c.args.c) c.requires)
    (omega (arith, ints, h.west, is.first y, c.u-else-is_less.ensures.value, c.u-else-is_less-2.ensures.value))
    (omega (arith, ints, h.west, is.second y, c.u-else-is_less.ensures.value, c.u-else-is_less-3.ensures.value))
    (omega (arith, ints, h.west, is.third y, c.u-else-is_less.ensures.value, c.u-else-is_less-4.ensures.value)))
