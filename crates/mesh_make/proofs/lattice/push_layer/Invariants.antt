use Rattle.std.proofs.Common.{◌≡◌, ◌++◌}
use Rattle.std.specs.List.{flat_map}
use Rattle.chain_terms.specs.Sums.{upto}
use Rattle.made_terms.specs.Lattice.{lattice_row}
use Rattle.mesh_make.proofs.lattice.push_layer.Given as goal

abbrev pub invariant-loop-j : goal.invariant-loop-j
invariant-loop-j l = l.points.items ≡ l.fn.points.items ++ flat_map (lattice_row l.n l.seed l.i) (upto l.j)
