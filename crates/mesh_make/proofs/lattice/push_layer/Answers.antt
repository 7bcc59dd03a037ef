use Rattle.made_terms.specs.Lattice.{lattice_row}
use Rattle.made_laws.proofs.Lattices.{pushed_more}
use Rattle.mesh_make.proofs.lattice.push_layer.Goals as goal

pub loop-j-preserved : goal.loop-j-preserved
loop-j-preserved c =
    pushed_more (lattice_row c.args.n c.args.seed c.args.i) c.loop-j.j c.args.points.now.items c.loop-j.points.items c.push_row.new.points.items
    c.loop-j.invariant c.in_ok-push_row.ensures
