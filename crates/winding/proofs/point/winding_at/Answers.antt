use Rattle.std.proofs.Common.{rules, arith, ap, neg_ℤ, ℤ, List, ◌≡◌, ◌∙◌, length, replicate, to_z, of_z, w64}
use Rattle.std.proofs.lemmas.Int.{ints}
use Rattle.chain_terms.specs.Sums.{total}
use Rattle.mb_base.specs.declared.point.Corner.{Corner}
use Rattle.mesh_terms.specs.Meshes.{Triple, triples_of}
use Rattle.side_terms.specs.Sides.{corners_of, face_of}
use Rattle.winding.specs.Windings.{face_shadow}
use Rattle.winding.proofs.Plain.{plain_winding, nearest_test, no_marks}
use Rattle.winding.proofs.point.winding_at.Goals as goal

pub returns-clause-value : goal.returns-clause-value
returns-clause-value g c =
    let mesh = c.args.mesh.now in
    let p = c.corner_of-p.result in
    let ups : c.in_ok-ups.ups.items ≡ replicate (length mesh.points) no_marks =
    c.in_ok-ups.ensures.items_if_clones_equal (λ y same. search rules) ∙ ap (λ (points : List (List ℤ)). replicate (length points) no_marks) c.points.ensures.value in
    let corners : c.in_ok-corners.corners.items ≡ corners_of mesh.points c.in_ok-ups.ups.items = search rules in
    let sum : List Corner → List Triple → ℤ = λ cs ts. neg_ℤ (total (λ (t : Triple). face_shadow nearest_test p (face_of cs t)) ts) in
    let whole : to_z w64 (of_z w64 c.minus_all.result) ≡ c.minus_all.result = omega (arith, ints) in
    whole ∙ c.minus_all.ensures.value ∙ ap (λ cs. sum cs (triples_of c.triples.result.now)) c.deref-2.ensures.value ∙ ap (sum c.in_ok-corners.corners.items) c.triples.ensures.value
    ∙ plain_winding c.args.point mesh p c.in_ok-corners.corners.items c.in_ok-ups.ups.items c.corner_of-p.ensures.value corners ups c.points.ensures.accepted.mesh.below
