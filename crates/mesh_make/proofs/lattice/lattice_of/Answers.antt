use Rattle.std.proofs.Common.{◌≡◌, length, subst, sym, ◌∙◌, ap, ◌*◌}
use Rattle.made_terms.specs.Lattice.{boxes_triples}
use Rattle.mesh_terms.specs.Meshes.{IsAccepted, triples_of}
use Rattle.made_laws.proofs.Lattices.{boxes_accepted, points_of_boxes}
use Rattle.mesh_make.proofs.lattice.lattice_of.Goals as goal

pub mesh_of-requires : goal.mesh_of-requires
mesh_of-requires c =
    let boxes = c.cube.result in
    let as_many : length c.in_ok-points.points.items ≡ 8 * boxes = ap length c.in_ok-points.ensures ∙ points_of_boxes c.args.n c.args.seed boxes c.cube.ensures.value in
    let triples : triples_of c.in_ok-triples.triples.items ≡ boxes_triples boxes = c.in_ok-triples.ensures in
    subst (λ n. IsAccepted n (triples_of c.in_ok-triples.triples.items)) (sym as_many) (subst (IsAccepted (8 * boxes)) (sym triples) (boxes_accepted boxes c.cube.ensures.small))
