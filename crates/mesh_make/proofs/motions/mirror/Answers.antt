use Rattle.std.proofs.Common.{◌≡◌, length, map, subst, sym, ◌∙◌, ap}
use Rattle.std.proofs.lemmas.List.{length-map}
use Rattle.made_terms.specs.Motions.{mirrored, turned_over}
use Rattle.mesh_terms.specs.Meshes.{IsAccepted, triples_of}
use Rattle.made_laws.proofs.Mirrors.{turned_accepted}
use Rattle.mesh_make.proofs.motions.mirror.Goals as goal

pub mesh_of-requires : goal.mesh_of-requires
mesh_of-requires c =
    let mesh = c.args.mesh.now in
    let as_many : length c.in_ok-points.points.items ≡ length mesh.points = ap length c.in_ok-points.ensures
    ∙ length-map c.points.result.now (mirrored c.args.axis) ∙ ap length c.points.ensures.value in
    let turned : triples_of c.in_ok-triples.triples.items ≡ map turned_over mesh.triples = c.in_ok-triples.ensures ∙ ap (map turned_over) c.triples.ensures.value in
    subst (λ n. IsAccepted n (triples_of c.in_ok-triples.triples.items)) (sym as_many)
    (subst (IsAccepted (length mesh.points)) (sym turned) (turned_accepted (length mesh.points) mesh.triples c.points.ensures.accepted))
