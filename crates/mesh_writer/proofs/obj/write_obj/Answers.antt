use Rattle.std.proofs.Common.{◌≡◌, ◌≤◌, ◌++◌, ◌-◌, arith, ℕ, List, ℤ, [], ◌∷◌, length, ap, sym, ◌∙◌, refl, subst}
use Rattle.std.specs.List.{flat_map}
use Rattle.std.specs.Option.{option_map}
use Rattle.std.proofs.lemmas.Result.{err_from_is_err_and, on_ok_weaker, on_err_weaker}
use Rattle.format_terms.specs.ObjWritten.{point_line, face_lines}
use Rattle.mb_outside.specs.Sinks.{TakesPart}
use Rattle.mesh_writer.proofs.Passing.{passed-then, stopped-then, stopped-longer, ended, ended_room, ended_in_part, last_fits, left_of}
use Rattle.mesh_writer.proofs.LabelledFaces.{no_faces}
use Rattle.mesh_writer.proofs.Written.{kept-then}
use Rattle.mesh_writer.proofs.obj.write_obj.Goals as goal

-- the text of a mesh by the points and the lines of its triangles
text_of_lists : (k : ℕ) (points ps : List (List ℤ)) (faces : List ℕ) → points ≡ ps → flat_map (point_line k) points ++ faces ≡ flat_map (point_line k) ps ++ faces
text_of_lists k points ps faces same = ap (λ x. flat_map (point_line k) x ++ faces) same

-- a text without bytes has no lines of points
no_points : (k : ℕ) (points : List (List ℤ)) (rest : List ℕ) → flat_map (point_line k) points ++ rest ≡ [] → points ≡ []
no_points k [] rest none = refl
no_points k (p ∷ ps) rest none = cc

-- a text without bytes has no lines
no_lines : (k : ℕ) (points : List (List ℤ)) (rest : List ℕ) → flat_map (point_line k) points ++ rest ≡ [] → (points ≡ []) × (rest ≡ [])
no_lines k [] rest none = (refl, none)
no_lines k (p ∷ ps) rest none = cc

pub returns-in_err-write_points-clause-part : goal.returns-in_err-write_points-clause-part
returns-in_err-write_points-clause-part g c =
    let p = err_from_is_err_and c.from_residual.result c.from_residual.ensures.1 in
    let k = c.args.digits in
    let faces = face_lines [] c.args.mesh.now.labels c.args.mesh.now.triples in
    let stopped = rw c.new-page.ensures at c.in_err-write_points.ensures.stopped in
    let whole = stopped-longer (flat_map (point_line k) c.points.result.now) faces [] _ _ _ _ stopped in
    let P : List (List ℤ) → Type 0 =
    λ points. TakesPart (flat_map (point_line k) points ++ faces) (g.K.Sink.told c.args.sink.now) (g.K.Sink.told c.write_points.new.sink)
    (g.K.Sink.room c.args.sink.now) (g.K.Sink.room c.write_points.new.sink) in
    rw p.1 (subst P c.points.ensures.value whole.part)

pub returns-in_err-write_triangles-clause-part : goal.returns-in_err-write_triangles-clause-part
returns-in_err-write_triangles-clause-part g c =
    let p = err_from_is_err_and c.from_residual-in_err-write_triangles.result c.from_residual-in_err-write_triangles.ensures.1 in
    let same =
    text_of_lists c.args.digits c.points.result.now c.args.mesh.now.points (face_lines [] c.args.mesh.now.labels c.args.mesh.now.triples) c.points.ensures.value in
    let P : List ℕ → Type 0 =
    λ text. TakesPart text (g.K.Sink.told c.args.sink.now) (g.K.Sink.told c.write_triangles.new.sink) (g.K.Sink.room c.args.sink.now)
    (g.K.Sink.room c.write_triangles.new.sink) in
    rw p.1 (subst P same (stopped-then _ _ [] _ _ _ _ _ _ _ (rw c.new-page.ensures at c.in_ok-write_points.ensures.passed) c.in_err-write_triangles.ensures.stopped).part)

pub returns-in_err-write_triangles-clause-sure : goal.returns-in_err-write_triangles-clause-sure
returns-in_err-write_triangles-clause-sure g c free is fits =
    let same =
    text_of_lists c.args.digits c.points.result.now c.args.mesh.now.points (face_lines [] c.args.mesh.now.labels c.args.mesh.now.triples) c.points.ensures.value in
    let P : List ℕ → Type 0 = λ text. length text ≤ free in
    absurd ((stopped-then _ _ [] _ _ _ _ _ _ _ (rw c.new-page.ensures at c.in_ok-write_points.ensures.passed)
    c.in_err-write_triangles.ensures.stopped).small free is (let f = subst P (sym same) fits in omega (arith, f)))

pub returns-clause-added : goal.returns-clause-added
returns-clause-added g c =
    let same =
    text_of_lists c.args.digits c.points.result.now c.args.mesh.now.points (face_lines [] c.args.mesh.now.labels c.args.mesh.now.triples) c.points.ensures.value in
    let whole = passed-then _ _ [] _ _ _ _ _ _ _ _ (rw c.new-page.ensures at c.in_ok-write_points.ensures.passed) c.in_ok-write_triangles.ensures.passed in
    on_ok_weaker c.write_all.result
    (λ added. ended _ _ _ _ _ _ _ whole (rw c.as_slice.ensures.value at added) ∙ ap (λ text. option_map (λ held. held ++ text) (g.K.Sink.told c.args.sink.now)) same)
    c.write_all.ensures.added

pub returns-clause-less : goal.returns-clause-less
returns-clause-less g c =
    let same =
    text_of_lists c.args.digits c.points.result.now c.args.mesh.now.points (face_lines [] c.args.mesh.now.labels c.args.mesh.now.triples) c.points.ensures.value in
    let whole = passed-then _ _ [] _ _ _ _ _ _ _ _ (rw c.new-page.ensures at c.in_ok-write_points.ensures.passed) c.in_ok-write_triangles.ensures.passed in
    on_ok_weaker c.write_all.result
    (λ less. ended_room _ _ _ _ _ _ _ whole (rw c.as_slice.ensures.value at less)
    ∙ ap (λ (text : List ℕ). option_map (λ (free : ℕ). free - length text) (g.K.Sink.room c.args.sink.now)) same)
    c.write_all.ensures.less

pub returns-clause-part : goal.returns-clause-part
returns-clause-part g c =
    let same =
    text_of_lists c.args.digits c.points.result.now c.args.mesh.now.points (face_lines [] c.args.mesh.now.labels c.args.mesh.now.triples) c.points.ensures.value in
    let whole = passed-then _ _ [] _ _ _ _ _ _ _ _ (rw c.new-page.ensures at c.in_ok-write_points.ensures.passed) c.in_ok-write_triangles.ensures.passed in
    let P : List ℕ → Type 0 =
    λ text. TakesPart text (g.K.Sink.told c.args.sink.now) (g.K.Sink.told c.write_all.new.sink) (g.K.Sink.room c.args.sink.now)
    (g.K.Sink.room c.write_all.new.sink) in
    on_err_weaker c.write_all.result (λ part. subst P same (ended_in_part _ _ _ _ _ _ _ _ whole (rw c.as_slice.ensures.value at part))) c.write_all.ensures.part

pub returns-clause-sure : goal.returns-clause-sure
returns-clause-sure g c free is fits =
    let same =
    text_of_lists c.args.digits c.points.result.now c.args.mesh.now.points (face_lines [] c.args.mesh.now.labels c.args.mesh.now.triples) c.points.ensures.value in
    let whole = passed-then _ _ [] _ _ _ _ _ _ _ _ (rw c.new-page.ensures at c.in_ok-write_points.ensures.passed) c.in_ok-write_triangles.ensures.passed in
    let P : List ℕ → Type 0 = λ text. length text ≤ free in
    let short = subst P (sym same) fits in
    let left = last_fits _ _ _ _ _ _ whole free short in
    c.write_all.ensures.sure (free - length whole.sent) (left_of _ _ free (length whole.sent) whole.room is) (rw c.as_slice.ensures.value left)

pub returns-in_err-write_points-clause-idle : goal.returns-in_err-write_points-clause-idle
returns-in_err-write_points-clause-idle g c none =
    let faces = face_lines [] c.args.mesh.now.labels c.args.mesh.now.triples in
    let same = text_of_lists c.args.digits c.points.result.now c.args.mesh.now.points faces c.points.ensures.value in
    (c.in_err-write_points.ensures.idle (no_points c.args.digits c.points.result.now faces (same ∙ none))).0

pub returns-in_err-write_triangles-clause-idle : goal.returns-in_err-write_triangles-clause-idle
returns-in_err-write_triangles-clause-idle g c none =
    let mesh = c.args.mesh.now in
    let faces = face_lines [] mesh.labels mesh.triples in
    let lists = no_lines c.args.digits c.points.result.now faces (text_of_lists c.args.digits c.points.result.now mesh.points faces c.points.ensures.value ∙ none) in
    (c.in_err-write_triangles.ensures.idle (no_faces [] mesh.labels mesh.triples lists.1)).0 ∙ (c.in_ok-write_points.ensures.idle lists.0).0

pub returns-clause-idle : goal.returns-clause-idle
returns-clause-idle g c none =
    let mesh = c.args.mesh.now in
    let faces = face_lines [] mesh.labels mesh.triples in
    let lists = no_lines c.args.digits c.points.result.now faces (text_of_lists c.args.digits c.points.result.now mesh.points faces c.points.ensures.value ∙ none) in
    let points = c.in_ok-write_points.ensures.idle lists.0 in
    let triangles = c.in_ok-write_triangles.ensures.idle (no_faces [] mesh.labels mesh.triples lists.1) in
    c.write_all.ensures.idle (c.as_slice.ensures.value ∙ triangles.1 ∙ points.1 ∙ c.new-page.ensures) ∙ triangles.0 ∙ points.0

pub returns-in_err-write_triangles-clause-kept : goal.returns-in_err-write_triangles-clause-kept
returns-in_err-write_triangles-clause-kept g c = kept-then g.K.Sink _ _ _ c.in_ok-write_points.ensures.kept c.in_err-write_triangles.ensures.kept

pub returns-clause-kept : goal.returns-clause-kept
returns-clause-kept g c =
    kept-then g.K.Sink _ _ _ (kept-then g.K.Sink _ _ _ c.in_ok-write_points.ensures.kept c.in_ok-write_triangles.ensures.kept) c.write_all.ensures.kept
