use Rattle.std.proofs.Common.{arith}
use Rattle.cross_section.proofs.Solids.{corners_below}
use Rattle.cross_section.proofs.extrusion.walls.push_top.Goals as goal

pub overflow_add-a : goal.overflow_add-a
overflow_add-a c =
    let t = corners_below c.args.count c.args.fill.now c.loop-a.a-index c.loop-a-test.true c.requires.below in omega (arith, t.a, c.requires.few)

pub overflow_add-b : goal.overflow_add-b
overflow_add-b c =
    let t = corners_below c.args.count c.args.fill.now c.loop-a.a-index c.loop-a-test.true c.requires.below in omega (arith, t.b, c.requires.few)

pub overflow_add-c : goal.overflow_add-c
overflow_add-c c =
    let t = corners_below c.args.count c.args.fill.now c.loop-a.a-index c.loop-a-test.true c.requires.below in omega (arith, t.c, c.requires.few)
