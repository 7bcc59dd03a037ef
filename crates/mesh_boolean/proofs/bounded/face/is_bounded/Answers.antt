use Rattle.std.proofs.Common.{◌≡◌, ◌↔◌, List, [], ◌∷◌, true, map, length, refl, arith, ap, sym, ◌∙◌}
use Rattle.std.specs.Prelude.{IsTrue, ◌==◌}
use Rattle.std.proofs.lemmas.Bool.{eqb-true}
use Rattle.std.proofs.lemmas.Result.{IfOk-weaker}
use Rattle.chain_terms.specs.Chains.{all_edges}
use Rattle.mesh_boolean.specs.Boundaries.{HaveOneBoundary}
use Rattle.edge_pairing.specs.Entries.{edge_of}
use Rattle.source_faces.specs.declared.lists.stands.Stand.{Stand}
use Rattle.source_faces.specs.ListParts.{segments_by}
use Rattle.mesh_terms.specs.Meshes.{triples_of}
use Rattle.source_faces.specs.Adding.{face_copies}
use Rattle.mesh_boolean.proofs.Copied.{copies_bounded}
use Rattle.mesh_boolean.proofs.BoundedFaces.{same_answer, same_chains}
use Rattle.mesh_boolean.proofs.bounded.face.is_bounded.Goals as goal

-- a list that has no record
none_listed : (ss : List Stand) → (length ss == 0) ≡ true → ss ≡ []
none_listed [] e = refl
none_listed (s ∷ ss) e = absurd (omega (arith, eqb-true (length (s ∷ ss)) 0 e))

pub returns-then-are_copies : goal.returns-then-are_copies
returns-then-are_copies c =
    let side = c.args.side.now in
    let runs = c.args.runs.now in
    let points = c.args.points.now in
    let f = c.args.face in
    let part = triples_of c.args.part.now in
    let none = none_listed c.args.stands.now (sym c.is_empty.ensures ∙ c.if-is_empty.true) in
    let have = c.requires.copies in
    let plain =
    copies_bounded side runs points have.last c.triples.ensures.side have.are have.order have.lie f c.requires.face (c.are_copies.ensures.equal c.if-are_copies.true) in (
      (λ e. same_chains (all_edges (face_copies side runs f).triples) (all_edges part) (segments_by side runs points f []) (segments_by side runs points f c.args.stands.now)
          (ap all_edges (sym (c.are_copies.ensures.copies c.if-are_copies.true))) (ap (segments_by side runs points f) (sym none)) plain),
      (λ one. refl),
    )

pub returns : goal.returns
returns c =
    let es = map edge_of c.deref.result.now in
    let ms = map edge_of c.deref-2.result.now in
    let fs = all_edges (triples_of c.args.part.now) in
    let ns = segments_by c.args.side.now c.args.runs.now c.args.points.now c.args.face c.args.stands.now in
    let edges : es ≡ fs = ap (map edge_of) c.deref.ensures.value ∙ c.in_ok-edges.ensures in
    let segments : ms ≡ ns = ap (map edge_of) c.deref-2.ensures.value ∙ c.in_ok-segments.ensures in
    IfOk-weaker c.have_one_boundary.result (λ answer. IsTrue answer ↔ HaveOneBoundary es ms) (λ answer. IsTrue answer ↔ HaveOneBoundary fs ns)
    (λ answer iff. same_answer answer es fs ms ns edges segments iff) c.have_one_boundary.ensures
