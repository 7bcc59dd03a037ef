use Rattle.std.proofs.Common.{◌≡◌, ◌++◌, drop}
use Rattle.std.specs.List.{flat_map}
use Rattle.chain_terms.specs.Paths.{round_edges}
use Rattle.outlines.proofs.outline.edges_round.Given as goal

abbrev pub invariant-loop-ring : goal.invariant-loop-ring
invariant-loop-ring l = l.edges.items ++ flat_map round_edges (drop l.ring-index l.loops) ≡ flat_map round_edges l.loops
