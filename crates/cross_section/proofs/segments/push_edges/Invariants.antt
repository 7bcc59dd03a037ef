use Rattle.std.proofs.Common.{◌≡◌, ◌++◌}
use Rattle.std.specs.List.{flat_map}
use Rattle.chain_terms.specs.Sums.{upto}
use Rattle.face_loops.specs.Segments.{edges_of}
use Rattle.cross_section.proofs.Segmented.{edges_segments}
use Rattle.cross_section.proofs.segments.push_edges.Given as goal

abbrev pub invariant-loop-k : goal.invariant-loop-k
invariant-loop-k l = edges_of l.segments.items ≡ edges_of l.fn.segments.items ++ flat_map (edges_segments l.ends l.edges l.points l.lists.starts l.lists.ends l.first) (upto l.k)
