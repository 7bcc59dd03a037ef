use Rattle.std.proofs.Common.{pos, arith}
use Rattle.std.proofs.lemmas.Int.{ints}
use Rattle.face_plane.specs.Planes.{turn}
use Rattle.ring_cutting.proofs.Beside.{uncovered, below_of, none_south, none_north}
use Rattle.ring_cutting.proofs.span.lies_above.Goals as goal

pub returns-then-is_less : goal.returns-then-is_less
returns-then-is_less c = λ y x h.
    let is = c.is_less.ensures in
    let t = c.if-is_less.true in
    uncovered c.args.a c.args.b c.args.c x
    (none_south c.args.a c.args.b c.args.c x (below_of (pos 0) (turn c.args.a c.args.b c.args.c) c.requires)
    (omega (arith, ints, h.north, is.first t, c.v.ensures.value, c.v-2.ensures.value))
    (omega (arith, ints, h.north, is.second t, c.v.ensures.value, c.v-3.ensures.value))
    (omega (arith, ints, h.north, is.third t, c.v.ensures.value, c.v-4.ensures.value)))

pub returns-else-is_less : goal.returns-else-is_less
returns-else-is_less c = λ y x h.
    let is = c.is_more.ensures in
    uncovered c.args.a c.args.b c.args.c x
    (none_north c.args.a c.args.b c.args.c x (below_of (pos 0) (turn c.args.a c.args.b c.args.c) c.requires)
    (omega (arith, ints, h.south, is.first y, c.v-else-is_less.ensures.value, c.v-else-is_less-2.ensures.value))
    (omega (arith, ints, h.south, is.second y, c.v-else-is_less.ensures.value, c.v-else-is_less-3.ensures.value))
    (omega (arith, ints, h.south, is.third y, c.v-else-is_less.ensures.value, c.v-else-is_less-4.ensures.value)))
