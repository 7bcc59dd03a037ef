use Rattle.std.proofs.Common.{length, arith}
use Rattle.fan_laws.proofs.Cycles.{next_among}
use Rattle.angle_pairing.proofs.changes.first_between.Goals as goal

pub bounds-labels-next : goal.bounds-labels-next
bounds-labels-next c =
    let low = c.requires.alike c.loop-other.other-index 0 c.loop-other-test.true in
    let next = next_among (length c.args.labels.now) _ c.requires.whole low in omega (arith, next, c.next.ensures)

pub bounds-labels-next-then-labels-other : goal.bounds-labels-next-then-labels-other
bounds-labels-next-then-labels-other c =
    let next = next_among (length c.args.labels.now) c.args.half c.requires.whole c.requires.half in omega (arith, next, c.next-then-labels-other.ensures)
