use Rattle.std.proofs.Common.{[]}
use Rattle.made_terms.specs.Lattice.{lattice_layer}
use Rattle.made_laws.proofs.Lattices.{pushed_more}
use Rattle.mesh_make.proofs.lattice.lattice_points.Goals as goal

pub loop-i-preserved : goal.loop-i-preserved
loop-i-preserved c =
    pushed_more (lattice_layer c.args.n c.args.seed) c.loop-i.i [] c.loop-i.points.items c.push_layer.new.points.items c.loop-i.invariant c.in_ok-push_layer.ensures
