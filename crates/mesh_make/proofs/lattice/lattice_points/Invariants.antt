use Rattle.std.proofs.Common.{◌≡◌}
use Rattle.std.specs.List.{flat_map}
use Rattle.chain_terms.specs.Sums.{upto}
use Rattle.made_terms.specs.Lattice.{lattice_layer}
use Rattle.mesh_make.proofs.lattice.lattice_points.Given as goal

abbrev pub invariant-loop-i : goal.invariant-loop-i
invariant-loop-i l = l.points.items ≡ flat_map (lattice_layer l.n l.seed) (upto l.i)
