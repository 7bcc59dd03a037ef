use Rattle.std.proofs.Common.{ap, ◌∙◌}
use Rattle.loop_ring.proofs.Lists.{address_at-is, same_seen, other_seen}
use Rattle.loop_ring.proofs.nodes.Nodes.set_next.Goals as goal

pub returns-clause-addresses : goal.returns-clause-addresses
returns-clause-addresses c = same_seen (λ n. n.0) _ _ _ _ c.set_node.ensures (c.requires.1 ∙ address_at-is c.args.self.now.list c.args.place)

pub returns-clause-nexts : goal.returns-clause-nexts
returns-clause-nexts c = other_seen (λ n. n.1.next) _ _ _ _ c.set_node.ensures

pub returns-clause-prevs : goal.returns-clause-prevs
returns-clause-prevs c = same_seen (λ n. n.1.prev) _ _ _ _ c.set_node.ensures (ap (λ x. x.prev) c.node-node.ensures)

pub returns-clause-values : goal.returns-clause-values
returns-clause-values c = same_seen (λ n. n.1.value) _ _ _ _ c.set_node.ensures (ap (λ x. x.value) c.node-node.ensures)
