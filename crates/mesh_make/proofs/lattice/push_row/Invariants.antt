use Rattle.std.proofs.Common.{◌≡◌, ◌++◌}
use Rattle.std.specs.List.{flat_map}
use Rattle.chain_terms.specs.Sums.{upto}
use Rattle.made_terms.specs.Lattice.{lattice_box}
use Rattle.mesh_make.proofs.lattice.push_row.Given as goal

abbrev pub invariant-loop-k : goal.invariant-loop-k
invariant-loop-k l = l.points.items ≡ l.fn.points.items ++ flat_map (lattice_box l.seed l.i l.j) (upto l.k)
