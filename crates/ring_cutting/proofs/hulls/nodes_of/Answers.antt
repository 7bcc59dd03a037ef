use Rattle.std.proofs.Common.{◌+◌, length, get_or, set, refl, ◌∙◌, arith}
use Rattle.std.proofs.lemmas.List.{length-set}
use Rattle.ring_cutting.proofs.Placing.{order_low, node_on, nodes_all}
use Rattle.ring_cutting.proofs.hulls.nodes_of.Goals as goal

pub index_mut-requires : goal.index_mut-requires
index_mut-requires c =
    let order = c.args.order.now in
    omega (arith, order_low (length order) order c.requires.moved c.loop-k.k c.loop-k-test.true, c.loop-k.invariant.many)

pub loop-k-preserved : goal.loop-k-preserved
loop-k-preserved c =
    let order = c.args.order.now in
    let n = length order in
    let k = c.loop-k.k in
    let nodes = c.loop-k.nodes.items in
    let i = get_or order k 0 in
    let low = order_low n order c.requires.moved k c.loop-k-test.true in
    record {
      many = length-set nodes i (n + k) ∙ c.loop-k.invariant.many;
      each = node_on n order nodes (set nodes i (n + k)) k i c.loop-k-test.true refl c.loop-k.invariant.many refl low refl c.loop-k.invariant.each;
    }

pub returns-clause-nodes : goal.returns-clause-nodes
returns-clause-nodes c =
    let order = c.args.order.now in
    nodes_all (length order) order c.loop-k.nodes.items c.requires.moved (λ j l. c.loop-k.invariant.each j (omega (arith, l, c.loop-k-test.false)))
