use Rattle.std.proofs.Common.{ℕ, List, get_or, refl, [], arith, subst, take_all}
use Rattle.std.specs.List.{flat_map}
use Rattle.std.proofs.lemmas.Result.{err_from_is_err_and}
use Rattle.mesh_terms.specs.Meshes.{triple_of}
use Rattle.format_terms.specs.StlWritten.{facet_text}
use Rattle.mesh_writer.specs.Passing.{Wrote}
use Rattle.mesh_writer.proofs.Written.{wrote-none, element-wrote, element-broke}
use Rattle.mesh_writer.proofs.stl.write_facets.Goals as goal

pub loop-triple-init : goal.loop-triple-init
loop-triple-init g c = record { free = c.requires.free; wrote = wrote-none g.K.Sink c.args.page.now.items c.args.sink.now }

pub loop-triple-preserved : goal.loop-triple-preserved
loop-triple-preserved g c =
    let ts = c.args.triples.now in
    let i = c.loop-triple.triple-index in
    let f : List ℕ → List ℕ = λ t. facet_text c.args.digits c.args.points.now (triple_of t) in
    record {
      free = c.in_ok-write_facet.ensures.free;
      wrote = element-wrote g.K.Sink f ts i [] (get_or ts i []) refl c.loop-triple-test.true _ _ _ _ _ _ c.loop-triple.invariant.wrote c.in_ok-write_facet.ensures.wrote;
    }

pub returns-in_err-write_facet-clause-broke : goal.returns-in_err-write_facet-clause-broke
returns-in_err-write_facet-clause-broke g c =
    let p = err_from_is_err_and c.from_residual.result c.from_residual.ensures.1 in
    let ts = c.args.triples.now in
    let i = c.loop-triple.triple-index in
    let f : List ℕ → List ℕ = λ t. facet_text c.args.digits c.args.points.now (triple_of t) in
    rw p.1 (element-broke g.K.Sink f ts i [] (get_or ts i []) refl c.loop-triple-test.true _ _ _ _ _ c.loop-triple.invariant.wrote c.in_err-write_facet.ensures.broke)

pub returns-clause-wrote : goal.returns-clause-wrote
returns-clause-wrote g c =
    let ts = c.args.triples.now in
    let f : List ℕ → List ℕ = λ t. facet_text c.args.digits c.args.points.now (triple_of t) in
    let P : List (List ℕ) → Type 0 = λ us. Wrote g.K.Sink (flat_map f us) (c.args.page.now.items, c.loop-triple.page.items) (c.args.sink.now, c.loop-triple.sink) in
    subst P (take_all c.loop-triple.triple-index ts (omega (arith, c.loop-triple-test.false))) c.loop-triple.invariant.wrote
