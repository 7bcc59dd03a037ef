use Rattle.std.proofs.Common.{[], map, ◌*◌}
use Rattle.made_terms.specs.Lattice.{further}
use Rattle.made_terms.specs.Solids.{box_triples}
use Rattle.mesh_terms.specs.Meshes.{triples_of}
use Rattle.made_laws.proofs.Lattices.{pushed_more}
use Rattle.mesh_make.proofs.lattice.boxes_triples.Goals as goal

pub loop-b-preserved : goal.loop-b-preserved
loop-b-preserved c =
    pushed_more (λ b. map (further (8 * b)) box_triples) c.loop-b.b [] (triples_of c.loop-b.triples.items) (triples_of c.push_box.new.triples.items)
    c.loop-b.invariant c.in_ok-push_box.ensures
