use Rattle.std.proofs.Common.{map, take, ◌++◌, ◌≡◌}
use Rattle.face_plane.specs.Planes.{face_plane}
use Rattle.plane_chains.specs.EdgeBoxes.{pair_of}
use Rattle.plane_chains.specs.Pairs.{pairs_among}
use Rattle.plane_chains.proofs.crossed_edges.push_crossings.Given as goal

abbrev pub invariant-loop-other : goal.invariant-loop-other
invariant-loop-other l =
    map pair_of l.pairs.items ≡ map pair_of l.initial.pairs.items
    ++ pairs_among (face_plane l.flat.plane.drop l.flat.turned l.flat.points.now) (map pair_of l.edges) l.number (take l.other-index l.near)
