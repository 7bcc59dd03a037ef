use Rattle.std.proofs.Common.{◌≡◌, ◌≤◌, List, [], ◌∷◌, true, get_or, length, refl, arith, ap, sym, subst, ◌∙◌}
use Rattle.std.specs.Prelude.{OnOk, ◌==◌}
use Rattle.std.proofs.lemmas.Bool.{eqb-true}
use Rattle.source_faces.specs.declared.lists.stands.Stand.{Stand}
use Rattle.lean.proofs.Triangles.{face_below}
use Rattle.mesh_terms.specs.Meshes.{IsBelow, triple_of}
use Rattle.ring_cutting.specs.Cuts.{Cut}
use Rattle.source_faces.specs.Adding.{IsAdded, are_equal_runs, face_copies, filled_by}
use Rattle.source_faces.proofs.Faces.{at_face}
use Rattle.source_faces.proofs.Forced.{forced_copies, forced_with}
use Rattle.source_faces.proofs.Outcomes.{on_ok}
use Rattle.source_faces.proofs.PlainFaces.{copied}
use Rattle.source_faces.proofs.face.push_face.Goals as goal

pub are_equal-requires : goal.are_equal-requires
are_equal-requires c =
    let side = c.args.side.now in
    let below =
    face_below (length side.corners) side.triples c.triples.result.now c.args.face c.triples.ensures.value
    c.triples.ensures.side.accepted.mesh.below c.requires.face in
    subst (λ n. IsBelow n (triple_of (get_or c.triples.result.now c.args.face []))) (sym c.requires.copies.are.each) below

-- a list that has no record
none_listed : (ss : List Stand) → (length ss == 0) ≡ true → ss ≡ []
none_listed [] e = refl
none_listed (s ∷ ss) e = absurd (omega (arith, eqb-true (length (s ∷ ss)) 0 e))

pub returns-then-are_equal-clause-added : goal.returns-then-are_equal-clause-added
returns-then-are_equal-clause-added c =
    let side = c.args.side.now in
    let runs = c.args.runs.now in
    let points = c.args.points.now in
    let f = c.args.face in
    let none = none_listed c.args.stands.now (sym c.is_empty.ensures ∙ c.if-is_empty.true) in
    let alike =
    ap (are_equal_runs runs) (sym (at_face side.triples c.triples.result.now f c.triples.ensures.value c.requires.face))
    ∙ sym c.are_equal.ensures ∙ c.if-are_equal.true in
    let have = c.requires.copies in
    let plain = copied side runs points have.last c.triples.ensures.side have.are have.order have.lie f c.requires.face alike in
    let same : face_copies side runs f ≡ filled_by side runs points f c.args.stands.now = sym plain ∙ ap (filled_by side runs points f) (sym none) in
    subst (λ (k : Cut). OnOk c.push_copies.result (IsAdded c.args.source k c.args.all.now c.push_copies.new.all)) same c.push_copies.ensures

pub returns-then-are_equal-clause-few : goal.returns-then-are_equal-clause-few
returns-then-are_equal-clause-few c =
    let side = c.args.side.now in
    let runs = c.args.runs.now in
    let f = c.args.face in
    let old = c.args.all.now in
    let new = c.push_copies.new.all in
    on_ok c.push_copies.result (IsAdded c.args.source (face_copies side runs f) old new) (new.forced ≤ length new.triples.items)
    (λ h. forced_with c.args.source (face_copies side runs f) old new (forced_copies side runs f) c.requires.few h) c.push_copies.ensures

pub returns-clause-few : goal.returns-clause-few
returns-clause-few c =
    let old = c.args.all.now in
    let new = c.push_filled.new.self in
    let part = c.in_ok-filled.filled in
    on_ok c.push_filled.result (IsAdded c.args.source part old new) (new.forced ≤ length new.triples.items)
    (λ h. forced_with c.args.source part old new c.in_ok-filled.ensures.most c.requires.few h) c.push_filled.ensures
