use Rattle.std.proofs.Common.{◌≡◌, ◌∙◌, true, length, replicate, sym, ap}
use Rattle.std.proofs.lemmas.List.{length-map, length-replicate}
use Rattle.std.proofs.lemmas.Result.{IfOk-weaker}
use Rattle.chain_terms.specs.Sums.{upto}
use Rattle.chain_laws.proofs.Places.{length-up_from}
use Rattle.mesh_terms.specs.Meshes.{triple_of}
use Rattle.mesh_check.specs.Reduced.{picked}
use Rattle.mesh_check.proofs.KeptPlaces.{all_there, picked_whole}
use Rattle.mesh_check.proofs.reduction.places_of_all.Goals as goal

pub returns : goal.returns
returns c =
    let m = c.args.mesh.now in
    let n = length c.triples.result.now in
    let same : n ≡ length m.triples = sym (length-map c.triples.result.now triple_of) ∙ ap length c.triples.ensures.value in
    let marks : c.deref.result.now ≡ replicate n true = c.deref.ensures.value ∙ c.in_ok-marks.ensures.items_if_clones_equal (λ y same. same) in
    IfOk-weaker c.marked_places.result _ _
    (λ places is. is ∙ ap (λ ms. picked ms (upto (length ms))) marks ∙ ap (λ k. picked (replicate n true) (upto k)) (length-replicate n true)
    ∙ picked_whole n (upto n) (length-up_from 0 n) ∙ ap upto same ∙ sym (all_there m.points m.triples m.labels c.requires)) c.marked_places.ensures
