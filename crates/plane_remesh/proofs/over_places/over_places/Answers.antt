use Rattle.std.proofs.Common.{List, ap, arith, length, map, subst, sym, ◌++◌, ◌≡◌, ◌∙◌}
use Rattle.std.specs.List.{All}
use Rattle.std.proofs.lemmas.List.{length-map}
use Rattle.chain_terms.specs.Chains.{IsClosed, all_edges}
use Rattle.mesh_terms.specs.Meshes.{IsBelow, Triple, triple_of, triples_of}
use Rattle.sheet_terms.specs.Places.{place_at, place_points}
use Rattle.edge_cutting.specs.Overs.{AreOver}
use Rattle.plane_remesh.proofs.Surfaced.{over_made, vertices_low}
use Rattle.plane_remesh.proofs.over_places.over_places.Goals as goal

pub joined-requires : goal.joined-requires
joined-requires c = omega (arith, ap length c.points.ensures.value, c.points.ensures.accepted.mesh.few_points)

pub places_of-requires : goal.places_of-requires
places_of-requires c = omega (arith, ap length c.deref.ensures.value, c.in_ok-all.ensures.few)

pub faces_over-requires-clause-below : goal.faces_over-requires-clause-below
faces_over-requires-clause-below c =
    let m = c.args.mesh.now in
    let all = c.in_ok-all.all.items in
    let of = c.deref-2.result.now in
    let of_are : of ≡ map (place_at (place_points all)) all = c.deref-2.ensures.value
    ∙ c.in_ok-places.ensures.of ∙ ap (λ ps. map (place_at (place_points ps)) ps) c.deref.ensures.value in
    subst (All (IsBelow (length of))) (sym c.triples.ensures.value)
    (vertices_low m c.args.more.now all of c.points.ensures.accepted (c.in_ok-all.ensures.points ∙ ap (λ ps. ps ++ c.args.more.now) c.points.ensures.value) of_are)

pub faces_over-requires-clause-few : goal.faces_over-requires-clause-few
faces_over-requires-clause-few c =
    omega (arith, length-map c.triples.result.now triple_of, ap length c.triples.ensures.value, c.triples.ensures.accepted.mesh.few_triples)

pub returns : goal.returns
returns c =
    let m = c.args.mesh.now in
    let all = c.in_ok-all.all.items in
    let of = c.deref-2.result.now in
    let of_are : of ≡ map (place_at (place_points all)) all = c.deref-2.ensures.value
    ∙ c.in_ok-places.ensures.of ∙ ap (λ ps. map (place_at (place_points ps)) ps) c.deref.ensures.value in
    let faces = c.in_ok-faces.faces in
    let places = c.in_ok-places.places in
    let ts : triples_of c.triples.result.now ≡ m.triples = c.triples.ensures.value in
    over_made m c.args.more.now all of c.points.ensures.accepted (c.in_ok-all.ensures.points ∙ ap (λ ps. ps ++ c.args.more.now) c.points.ensures.value) of_are
    (record { points = places.points; triples = faces.triples; sources = faces.sources })
    (subst (λ (l : List Triple). AreOver of l (triples_of faces.triples.items) faces.sources.items) ts c.in_ok-faces.ensures.over)
    (c.in_ok-places.ensures.points ∙ ap place_points c.deref.ensures.value) c.in_ok-places.ensures.apart c.in_ok-all.ensures.few c.in_ok-faces.ensures.three
    (subst (λ (l : List Triple). IsClosed (all_edges l) → IsClosed (all_edges (triples_of faces.triples.items))) ts c.in_ok-faces.ensures.closed)
