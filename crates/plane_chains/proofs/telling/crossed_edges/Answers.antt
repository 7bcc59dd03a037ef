use Rattle.std.proofs.Common.{[], ap, length, rules, ◌≡◌}
use Rattle.std.specs.List.{list_any}
use Rattle.sheet_terms.specs.Chains.{same_edge}
use Rattle.plane_chains.proofs.MarkLists.{crossed_all, crossed_more}
use Rattle.plane_chains.proofs.PartWays.{first_below}
use Rattle.plane_chains.proofs.telling.crossed_edges.Goals as goal

pub loop-pair-init : goal.loop-pair-init
loop-pair-init c = λ e. ap (list_any (same_edge e)) (let none : c.new-crossed.result.keys ≡ [] = search rules in none)

pub first_edge-requires : goal.first_edge-requires
first_edge-requires c = first_below (length c.args.edges.now) c.args.pairs.now c.loop-pair.pair-index c.requires c.loop-pair-test.true

pub loop-pair-preserved : goal.loop-pair-preserved
loop-pair-preserved c =
    crossed_more c.args.edges.now c.args.pairs.now c.loop-pair.pair-index c.loop-pair.crossed.keys c.insert.new.self.keys c.first_edge.result c.loop-pair-test.true
    c.first_edge.ensures c.in_ok-insert.ensures.keys c.loop-pair.invariant

pub returns : goal.returns
returns c = crossed_all c.args.edges.now c.args.pairs.now c.loop-pair.pair-index c.loop-pair.crossed.keys c.loop-pair-test.false c.loop-pair.invariant
