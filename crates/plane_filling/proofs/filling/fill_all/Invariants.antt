use Rattle.std.specs.List.{flat_map}
use Rattle.chain_terms.specs.Sums.{upto}
use Rattle.mesh_terms.specs.Meshes.{triples_of}
use Rattle.plane_filling.specs.Pieces.{AreFilled, pieces_at}
use Rattle.plane_filling.proofs.filling.fill_all.Given as goal

-- what is put at the places of the triangles so far
abbrev pub invariant-loop-number : goal.invariant-loop-number
invariant-loop-number l = AreFilled (flat_map (pieces_at l.points (triples_of l.triples) l.alone l.regions l.ways) (upto l.number)) l.filled
