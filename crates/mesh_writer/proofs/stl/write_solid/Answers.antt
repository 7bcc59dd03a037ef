use Rattle.std.proofs.Common.{◌≡◌, ℕ, ℤ, List, ◌++◌, codes, length, sym, ap, ◌∙◌, subst, arith}
use Rattle.std.specs.List.{All, flat_map}
use Rattle.std.proofs.lemmas.List.Folds.{flat_map-map}
use Rattle.std.proofs.lemmas.List.{get_or-map, length-map}
use Rattle.std.proofs.lemmas.Result.{err_from_is_err_and, on_ok_weaker, on_err_weaker}
use Rattle.mesh_terms.specs.Meshes.{Triple, IsBelow, triple_of, triples_of}
use Rattle.format_terms.specs.StlWritten.{facet_text}
use Rattle.mesh_writer.specs.Passing.{Wrote, Broke}
use Rattle.mesh_writer.proofs.Written.{wrote-then, broke-then, broke-longer}
use Rattle.mesh_writer.proofs.stl.write_solid.Goals as goal

-- the first and the last line
abbrev first : List ℕ
first = codes "solid manifold\n"

abbrev last : List ℕ
last = codes "endsolid manifold\n"

-- the facets of a mesh by the lists that it is made of
facets_of_lists : (k : ℕ) (points ps : List (List ℤ)) (triples : List (List ℕ)) (ts : List Triple) → points ≡ ps → triples_of triples ≡ ts
    → flat_map (λ t. facet_text k points (triple_of t)) triples ≡ flat_map (facet_text k ps) ts
facets_of_lists k points ps triples ts same_points same_triples =
    sym (flat_map-map (facet_text k points) triple_of triples)
    ∙ ap (λ x. flat_map (facet_text k x) (triples_of triples)) same_points
    ∙ ap (flat_map (facet_text k ps)) same_triples

-- what holds of each triple holds of each list that it is made of
each_below : (n : ℕ) (triples : List (List ℕ)) (ts : List Triple) → triples_of triples ≡ ts → All (IsBelow n) ts → All (λ t. IsBelow n (triple_of t)) triples
each_below n triples ts same below i d inside =
    let all = subst (All (IsBelow n)) (sym same) below in
    subst (IsBelow n) (get_or-map triple_of triples i d (triple_of d) inside) (all i (triple_of d) (omega (arith, length-map triples triple_of, inside)))

pub write_facets-requires-clause-below : goal.write_facets-requires-clause-below
write_facets-requires-clause-below g c =
    let mesh = c.args.mesh.now in
    let P : List (List ℤ) → Type 0 = λ points. All (λ t. IsBelow (length points) (triple_of t)) c.triples.result.now in
    subst P (sym c.points.ensures.value) (each_below (length mesh.points) c.triples.result.now mesh.triples c.triples.ensures.value c.triples.ensures.accepted.mesh.below)

pub returns-in_err-write_line-clause-broke : goal.returns-in_err-write_line-clause-broke
returns-in_err-write_line-clause-broke g c =
    let p = err_from_is_err_and c.from_residual.result c.from_residual.ensures.1 in
    let k = g.K.Sink in
    let h = c.args.page.now.items in
    let s = c.args.sink.now in
    let u = c.write_line.new.sink in
    let facets = flat_map (facet_text c.args.digits c.args.mesh.now.points) c.args.mesh.now.triples in
    rw p.1 (broke-longer k _ last h s u (broke-longer k first facets h s u c.in_err-write_line.ensures.broke))

pub returns-in_err-write_facets-clause-broke : goal.returns-in_err-write_facets-clause-broke
returns-in_err-write_facets-clause-broke g c =
    let p = err_from_is_err_and c.from_residual-in_err-write_facets.result c.from_residual-in_err-write_facets.ensures.1 in
    let k = g.K.Sink in
    let h = c.args.page.now.items in
    let s = c.args.sink.now in
    let u = c.write_facets.new.sink in
    let mesh = c.args.mesh.now in
    let same = facets_of_lists c.args.digits c.points.result.now mesh.points c.triples.result.now mesh.triples c.points.ensures.value c.triples.ensures.value in
    let P : List ℕ → Type 0 = λ facets. Broke k facets c.write_line.new.page.items (c.write_line.new.sink, u) in
    let broke = subst P same c.in_err-write_facets.ensures.broke in
    rw p.1 (broke-longer k _ last h s u (broke-then k first _ h _ s _ u c.in_ok-write_line.ensures.wrote broke))

-- the first line and the facets were written
before_last : (g : _) (c : goal.After-write_line-2 g) →
    Wrote g.K.Sink (first ++ flat_map (facet_text c.args.digits c.args.mesh.now.points) c.args.mesh.now.triples)
    (c.args.page.now.items, c.write_facets.new.page.items) (c.args.sink.now, c.write_facets.new.sink)
before_last g c =
    let k = g.K.Sink in
    let t = c.write_facets.new.sink in
    let mesh = c.args.mesh.now in
    let same = facets_of_lists c.args.digits c.points.result.now mesh.points c.triples.result.now mesh.triples c.points.ensures.value c.triples.ensures.value in
    let P : List ℕ → Type 0 = λ facets. Wrote k facets (c.write_line.new.page.items, c.write_facets.new.page.items) (c.write_line.new.sink, t) in
    wrote-then k first _ c.args.page.now.items _ c.write_facets.new.page.items c.args.sink.now _ t
    c.in_ok-write_line.ensures.wrote (subst P same c.in_ok-write_facets.ensures.wrote)

pub returns-clause-wrote : goal.returns-clause-wrote
returns-clause-wrote g c =
    on_ok_weaker c.write_line-2.result
    (λ w. wrote-then g.K.Sink _ last c.args.page.now.items _ c.write_line-2.new.page.items c.args.sink.now _ c.write_line-2.new.sink (before_last g c) w)
    c.write_line-2.ensures.wrote

pub returns-clause-broke : goal.returns-clause-broke
returns-clause-broke g c =
    on_err_weaker c.write_line-2.result
    (λ b. broke-then g.K.Sink _ last c.args.page.now.items _ c.args.sink.now _ c.write_line-2.new.sink (before_last g c) b)
    c.write_line-2.ensures.broke
