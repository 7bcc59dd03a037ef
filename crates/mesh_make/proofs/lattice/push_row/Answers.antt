use Rattle.std.proofs.Common.{◌++◌, ◌∙◌, ap}
use Rattle.made_terms.specs.Lattice.{lattice_box}
use Rattle.made_laws.proofs.Lattices.{pushed_more}
use Rattle.mesh_make.proofs.lattice.push_row.Goals as goal

pub loop-k-preserved : goal.loop-k-preserved
loop-k-preserved c =
    let f = lattice_box c.args.seed c.args.i c.args.j in
    pushed_more f c.loop-k.k c.args.points.now.items c.loop-k.points.items c.push_points.new.points.items c.loop-k.invariant
    (c.in_ok-push_points.ensures ∙ ap (λ l. c.loop-k.points.items ++ l) c.lattice_box.ensures)
