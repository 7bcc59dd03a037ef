use Rattle.std.proofs.Common.{◌≡◌, ◌++◌, ◌∙◌, ℕ, ℤ, List, codes, append_assoc, ap, sym, subst}
use Rattle.std.proofs.lemmas.Result.{err_from_is_err_and, on_ok_weaker, on_err_weaker}
use Rattle.mesh_terms.specs.Meshes.{Triple, triple_of}
use Rattle.format_terms.specs.StlWritten.{corner_line, facet_text}
use Rattle.mesh_writer.specs.Corners.{corner_lines}
use Rattle.mesh_writer.specs.Passing.{Wrote, Broke}
use Rattle.mesh_writer.proofs.Written.{wrote-then, broke-then, broke-longer}
use Rattle.mesh_writer.proofs.stl.write_facet.Goals as goal

-- the lines of a facet before and after its corners
abbrev head : List ℕ
head = codes "facet normal 0 0 0\n" ++ codes "outer loop\n"

abbrev endloop : List ℕ
endloop = codes "endloop\n"

abbrev endfacet : List ℕ
endfacet = codes "endfacet\n"

-- seven texts in three parts
in_parts : (h a b c e f : List ℕ) → (h ++ (a ++ b ++ c)) ++ (e ++ f) ≡ h ++ a ++ b ++ c ++ e ++ f
in_parts h a b c e f =
    sym (append_assoc (h ++ a ++ b ++ c) e f ∙ ap (λ (x : List ℕ). x ++ (e ++ f)) (ap (λ (x : List ℕ). x ++ c) (append_assoc h a b) ∙ append_assoc h (a ++ b) c))

-- the facet in three parts
parts : (k : ℕ) (points : List (List ℤ)) (t : Triple) → (head ++ corner_lines k points t) ++ (endloop ++ endfacet) ≡ facet_text k points t
parts k points t = in_parts head (corner_line k points t.0) (corner_line k points t.1) (corner_line k points t.2) endloop endfacet

pub returns-in_err-write_two-clause-broke : goal.returns-in_err-write_two-clause-broke
returns-in_err-write_two-clause-broke g c =
    let p = err_from_is_err_and c.from_residual.result c.from_residual.ensures.1 in
    let t = triple_of c.args.triple.now in
    let h = c.args.page.now.items in
    let s = c.args.sink.now in
    let u = c.write_two.new.sink in
    let P : List ℕ → Type 0 = λ text. Broke g.K.Sink text h (s, u) in
    let corners = broke-longer g.K.Sink head (corner_lines c.args.digits c.args.points.now t) h s u c.in_err-write_two.ensures.broke in
    rw p.1 (subst P (parts c.args.digits c.args.points.now t) (broke-longer g.K.Sink _ (endloop ++ endfacet) h s u corners))

pub returns-in_err-write_corners-clause-broke : goal.returns-in_err-write_corners-clause-broke
returns-in_err-write_corners-clause-broke g c =
    let p = err_from_is_err_and c.from_residual-in_err-write_corners.result c.from_residual-in_err-write_corners.ensures.1 in
    let t = triple_of c.args.triple.now in
    let h = c.args.page.now.items in
    let s = c.args.sink.now in
    let u = c.write_corners.new.sink in
    let P : List ℕ → Type 0 = λ text. Broke g.K.Sink text h (s, u) in
    let corners = broke-then g.K.Sink head (corner_lines c.args.digits c.args.points.now t) h _ s _ u c.in_ok-write_two.ensures.wrote c.in_err-write_corners.ensures.broke in
    rw p.1 (subst P (parts c.args.digits c.args.points.now t) (broke-longer g.K.Sink _ (endloop ++ endfacet) h s u corners))

pub returns-clause-wrote : goal.returns-clause-wrote
returns-clause-wrote g c =
    let t = triple_of c.args.triple.now in
    let h = c.args.page.now.items in
    let s = c.args.sink.now in
    let P : List ℕ → Type 0 = λ text. Wrote g.K.Sink text (h, c.write_two-2.new.page.items) (s, c.write_two-2.new.sink) in
    let corners = wrote-then g.K.Sink head (corner_lines c.args.digits c.args.points.now t) h _ c.write_corners.new.page.items s _ c.write_corners.new.sink
    c.in_ok-write_two.ensures.wrote c.in_ok-write_corners.ensures.wrote in
    on_ok_weaker c.write_two-2.result
    (λ w. subst P (parts c.args.digits c.args.points.now t) (wrote-then g.K.Sink _ (endloop ++ endfacet) h _ c.write_two-2.new.page.items s _ c.write_two-2.new.sink corners w))
    c.write_two-2.ensures.wrote

pub returns-clause-broke : goal.returns-clause-broke
returns-clause-broke g c =
    let t = triple_of c.args.triple.now in
    let h = c.args.page.now.items in
    let s = c.args.sink.now in
    let P : List ℕ → Type 0 = λ text. Broke g.K.Sink text h (s, c.write_two-2.new.sink) in
    let corners = wrote-then g.K.Sink head (corner_lines c.args.digits c.args.points.now t) h _ c.write_corners.new.page.items s _ c.write_corners.new.sink
    c.in_ok-write_two.ensures.wrote c.in_ok-write_corners.ensures.wrote in
    on_err_weaker c.write_two-2.result
    (λ b. subst P (parts c.args.digits c.args.points.now t) (broke-then g.K.Sink _ (endloop ++ endfacet) h _ s _ c.write_two-2.new.sink corners b))
    c.write_two-2.ensures.broke
