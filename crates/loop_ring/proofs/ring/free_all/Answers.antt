use Rattle.std.proofs.Common.{◌<◌, length, ap, arith}
use Rattle.std.proofs.lemmas.List.{length-drop}
use Rattle.loop_ring.proofs.Rounds.{chain_of_circle, chain_front, chain_on}
use Rattle.loop_ring.proofs.ring.free_all.Goals as goal

pub loop-init : goal.loop-init
loop-init c = let all = c.requires.count in (omega arith, chain_of_circle c.args.first c.args.nodes.list c.requires.circle)

pub next-next-requires : goal.next-next-requires
next-next-requires c =
    let count = c.loop.invariant.0 in let more = c.loop-test.true in let some : 0 < length c.loop.nodes.list = omega arith in
    (some, chain_front c.loop.at c.loop.nodes.list some c.loop.invariant.1)

pub remove-requires : goal.remove-requires
remove-requires c =
    let count = c.loop.invariant.0 in let more = c.loop-test.true in let some : 0 < length c.loop.nodes.list = omega arith in
    (some, chain_front c.loop.at c.loop.nodes.list some c.loop.invariant.1)

pub loop-preserved : goal.loop-preserved
loop-preserved c =
    let count = c.loop.invariant.0 in let more = c.loop-test.true in let some : 0 < length c.loop.nodes.list = omega arith in
    let gone = ap length c.remove.ensures in let rest = length-drop 1 c.loop.nodes.list in
    (omega arith, chain_on c.loop.at _ c.loop.nodes.list _ some c.loop.invariant.1 c.next-next.ensures c.remove.ensures)
