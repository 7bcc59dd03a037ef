use Rattle.std.proofs.Common.{length, map, ◌≡◌}
use Rattle.std.specs.List.{flat_map}
use Rattle.chain_terms.specs.Sums.{upto}
use Rattle.face_plane.specs.Planes.{face_plane}
use Rattle.plane_chains.specs.EdgeBoxes.{pair_of}
use Rattle.plane_chains.specs.Pairs.{pairs_among}
use Rattle.plane_chains.proofs.crossed_edges.crossings.Given as goal

abbrev pub invariant-loop-number : goal.invariant-loop-number
invariant-loop-number l =
    map pair_of l.pairs.items
    ≡ flat_map (λ i. pairs_among (face_plane l.flat.plane.drop l.flat.turned l.flat.points.now) (map pair_of l.edges) i (upto (length l.edges))) (upto l.number)
