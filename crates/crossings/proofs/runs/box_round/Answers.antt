use Rattle.std.proofs.Common.{◌≡◌, ◌<◌, List, [], length, get_or, arith, ap, sym, subst, inl, inr, ◌∙◌}
use Rattle.std.specs.List.{All}
use Rattle.std.proofs.lemmas.Bool.{cases_lt}
use Rattle.std.proofs.lemmas.List.{get_or-map, length-map}
use Rattle.mb_base.specs.declared.point.Corner.{Corner}
use Rattle.mesh_terms.specs.Meshes.{IsBelow, Triple, triple_of}
use Rattle.side_terms.specs.Sides.{face_at, face_of}
use Rattle.lean.proofs.Triangles.{face_below}
use Rattle.crossings.specs.Runs.{IsRound}
use Rattle.crossings.proofs.runs.box_round.Goals as goal

pub with_face-area-requires : goal.with_face-area-requires
with_face-area-requires c =
    let side = c.args.side.now in
    let xs = c.triples-triples.result.now in
    subst (λ (cs : List Corner). IsBelow (length cs) (triple_of (get_or xs c.loop-face.face []))) (sym c.corners-corners.ensures.value)
    (face_below (length side.corners) side.triples xs c.loop-face.face c.triples-triples.ensures.value c.triples-triples.ensures.side.accepted.mesh.below
    (omega (arith, c.loop-face-test.true, c.requires)))

pub loop-face-preserved : goal.loop-face-preserved
loop-face-preserved c f low high =
    let side = c.args.side.now in
    let xs = c.triples-triples.result.now in
    let i = c.loop-face.face in
    let area = c.with_face-area.result in
    elim (cases_lt f i) as (λ _. All (IsRound area) (face_at side f)) [
      | inl before ↦ λ k d h. c.with_face-area.ensures.more (get_or (face_at side f) k d) (c.loop-face.invariant f low before k d h)
      | inr now ↦
          let same : f ≡ i = omega (arith, high, now) in
          let inside : i < length xs = omega (arith, c.loop-face-test.true, c.requires, ap length c.triples-triples.ensures.value, length-map xs triple_of) in
          let triple : triple_of (get_or xs i []) ≡ get_or side.triples i (0, 0, 0) =
          sym (get_or-map triple_of xs i [] (0, 0, 0) inside) ∙ ap (λ (ts : List Triple). get_or ts i (0, 0, 0)) c.triples-triples.ensures.value in
          let face : face_of c.corners-corners.result.now (triple_of (get_or xs i [])) ≡ face_at side f =
          ap (λ (cs : List Corner). face_of cs (triple_of (get_or xs i []))) c.corners-corners.ensures.value ∙ ap (face_of side.corners) triple ∙ ap (face_at side) (sym same) in
          subst (All (IsRound area)) face c.with_face-area.ensures.face
    ]
