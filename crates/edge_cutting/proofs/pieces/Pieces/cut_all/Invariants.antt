use Rattle.std.proofs.Common.{map, take}
use Rattle.edge_cutting.specs.Edges.{pair_of}
use Rattle.edge_cutting.specs.Pieces.{AreGathered}
use Rattle.edge_cutting.proofs.pieces.Pieces.cut_all.Given as goal

-- the edges so far are cut
abbrev pub invariant-loop-edge : goal.invariant-loop-edge
invariant-loop-edge l = AreGathered l.points (map pair_of (take l.edge-index l.long)) l.self
