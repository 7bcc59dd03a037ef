use Rattle.std.proofs.Common.{◌≡◌, ◌∙◌, ℕ, List, [], sym, ap, subst}
use Rattle.std.specs.List.{flat_map}
use Rattle.std.proofs.lemmas.List.Folds.{flat_map-map}
use Rattle.std.proofs.lemmas.Result.{on_ok_weaker, on_err_weaker}
use Rattle.mesh_terms.specs.Labels.{no_labels}
use Rattle.mesh_terms.specs.Meshes.{Triple, triple_of, triples_of}
use Rattle.format_terms.specs.ObjWritten.{face_line, face_lines}
use Rattle.mesh_writer.specs.Passing.{PassedOn, StoppedOn}
use Rattle.mesh_writer.proofs.LabelledFaces.{faces_plain}
use Rattle.mesh_writer.proofs.obj.write_triangles.Goals as goal

-- without labels the lines are those of the triangles alone
plain : (labels : List (List ℕ)) (triples : List (List ℕ)) (ts : List Triple) → no_labels ts ≡ labels → triples_of triples ≡ ts →
    flat_map (λ t. face_line (triple_of t)) triples ≡ face_lines [] labels ts
plain labels triples ts none stored =
    sym (flat_map-map face_line triple_of triples)
    ∙ ap (flat_map face_line) stored
    ∙ sym (faces_plain ts)
    ∙ ap (λ (ls : List (List ℕ)). face_lines [] ls ts) none

pub returns-in-None-clause-passed : goal.returns-in-None-clause-passed
returns-in-None-clause-passed g c =
    let same = plain c.args.mesh.now.labels c.triples.result.now c.args.mesh.now.triples c.in-None.ensures.value c.triples.ensures.value in
    let P : List ℕ → Type 0 = λ text. PassedOn g.K.Sink text (c.args.page.now.items, c.write_faces.new.page.items) (c.args.sink.now, c.write_faces.new.sink) in
    on_ok_weaker c.write_faces.result (λ passed. subst P same passed) c.write_faces.ensures.passed

pub returns-in-None-clause-stopped : goal.returns-in-None-clause-stopped
returns-in-None-clause-stopped g c =
    let same = plain c.args.mesh.now.labels c.triples.result.now c.args.mesh.now.triples c.in-None.ensures.value c.triples.ensures.value in
    let P : List ℕ → Type 0 = λ text. StoppedOn g.K.Sink text c.args.page.now.items (c.args.sink.now, c.write_faces.new.sink) in
    on_err_weaker c.write_faces.result (λ stopped. subst P same stopped) c.write_faces.ensures.stopped
