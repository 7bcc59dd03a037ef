use Rattle.std.proofs.Common.{◌<◌, length, arith}
use Rattle.plane_sheets.proofs.Following.{starts_more}
use Rattle.plane_sheets.proofs.walks.starts_of.Goals as goal

pub loop-number-preserved : goal.loop-number-preserved
loop-number-preserved c =
    let i = c.loop-number.number-index in
    let within : i < length c.args.numbers.now = omega (arith, c.loop-number-test.true) in
    starts_more c.args.edges.now c.args.numbers.now c.loop-number.starts.items c.push.new.self.items i within (c.requires i 0 within)
    c.loop-number.invariant c.in_ok-push.ensures.items
