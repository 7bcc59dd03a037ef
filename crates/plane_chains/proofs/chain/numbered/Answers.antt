use Rattle.std.proofs.Common.{◌^◌, ◌<◌, arith, rules}
use Rattle.plane_chains.proofs.WayLists.{key_bound, numbered_all, numbered_more, numbered_none}
use Rattle.plane_chains.proofs.chain.numbered.Goals as goal

pub loop-way-init : goal.loop-way-init
loop-way-init c = numbered_none c.args.ways.now c.new-edges.result.keys c.in_ok-edge_of.edge_of.items (search rules) (search rules)

pub overflow_cast-edge : goal.overflow_cast-edge
overflow_cast-edge c =
    let most = key_bound c.loop-way.edges.keys c.up.result in
    let low : c.in_ok-edge.edge < 2 ^ 32 = omega (arith, most, c.in_ok-edge.ensures.index, c.loop-way.invariant.few, c.loop-way-test.true, c.requires) in search rules

pub loop-way-preserved : goal.loop-way-preserved
loop-way-preserved c =
    numbered_more c.args.ways.now c.loop-way.way-index c.loop-way.edges.keys c.insert_full.new.self.keys c.loop-way.edge_of.items c.push.new.self.items c.up.result
    c.in_ok-edge.edge c.loop-way-test.true c.up.ensures c.loop-way.invariant c.in_ok-edge.ensures.keys c.in_ok-edge.ensures.index c.in_ok-push.ensures.items

pub returns : goal.returns
returns c = numbered_all c.args.ways.now c.loop-way.way-index c.loop-way.edges.keys c.loop-way.edge_of.items c.loop-way-test.false c.loop-way.invariant
