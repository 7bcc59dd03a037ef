use Rattle.std.proofs.Common.{arith, ◌≡◌, ◌-ℤ◌, ◌<◌, ℤ, [], get_or, length, refl, ap, sym, ◌∙◌, to_z, of_z, w64}
use Rattle.std.proofs.lemmas.Int.{ints}
use Rattle.std.proofs.lemmas.List.{get_or-map, length-map}
use Rattle.mesh_terms.specs.Meshes.{Triple, IsBelow, triple_of, triples_of}
use Rattle.side_terms.specs.Sides.{face_of}
use Rattle.lean.proofs.Triangles.{triple_at}
use Rattle.winding.proofs.Steps.{one_more}
use Rattle.winding.proofs.point.minus_all.Goals as goal

pub face_of-requires : goal.face_of-requires
face_of-requires g c =
    let xs = c.args.triples.now in triple_at (IsBelow (length c.args.corners.now)) (triples_of xs) xs c.loop-triple.triple-index refl c.requires.below c.loop-triple-test.true

pub loop-triple-preserved : goal.loop-triple-preserved
loop-triple-preserved g c =
    let shadow = g.S.VertexFace.vertex_shadow c.args.shadows.now c.args.vertex.now in
    let corners = c.args.corners.now in
    let xs = c.args.triples.now in
    let i = c.loop-triple.triple-index in
    let f : Triple → ℤ = λ t. shadow (face_of corners t) in
    let inside : i < length (triples_of xs) = omega (arith, c.loop-triple-test.true, length-map xs triple_of) in
    let at : triple_of (get_or xs i []) ≡ get_or (triples_of xs) i (0, 0, 0) = sym (get_or-map triple_of xs i [] (0, 0, 0) c.loop-triple-test.true) in
    let here : c.shadow-winding.result ≡ f (get_or (triples_of xs) i (0, 0, 0)) = c.shadow-winding.ensures.value ∙ ap shadow c.face_of.ensures ∙ ap f at in
    let low = c.shadow-winding.ensures.size.0 in
    let high = c.shadow-winding.ensures.size.1 in
    let more = one_more f (triples_of xs) i (to_z w64 c.loop-triple.winding-bits) c.shadow-winding.result inside c.loop-triple.invariant.value here in
    let whole : to_z w64 (of_z w64 (to_z w64 c.loop-triple.winding-bits -ℤ to_z w64 (of_z w64 c.shadow-winding.result)))
    ≡ to_z w64 c.loop-triple.winding-bits -ℤ c.shadow-winding.result = omega (arith, ints) in
    record { value = whole ∙ more; low = omega (arith, ints); high = omega (arith, ints) }
