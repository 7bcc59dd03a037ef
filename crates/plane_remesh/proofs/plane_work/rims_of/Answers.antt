use Rattle.std.proofs.Common.{[], ◌++◌, ◌∙◌, ap, get_or}
use Rattle.std.specs.Prelude.{ℕ, List}
use Rattle.std.proofs.lemmas.List.{get_or_read}
use Rattle.mesh_terms.specs.Meshes.{triple_of}
use Rattle.edge_cutting.specs.Cut.{cut_rim}
use Rattle.plane_remesh.proofs.Listing.{rims_done, rims_more}
use Rattle.plane_remesh.proofs.plane_work.rims_of.Goals as goal

pub loop-number-preserved : goal.loop-number-preserved
loop-number-preserved c =
    let surface = c.args.surface.now in
    rims_more (λ t. cut_rim surface.cuts (triple_of (get_or surface.over.triples.items t []))) c.args.numbers.now c.loop-number.number-index c.loop-number.rims c.push_list.new.self
    c.deref.result.now c.loop-number-test.true c.loop-number.invariant c.in_ok-push_list.ensures
    (c.deref.ensures.value ∙ c.in_ok-push_rim.ensures ∙ ap (λ (l : List ℕ). l ++ cut_rim surface.cuts (triple_of c.index.result.now)) c.clear.ensures.items
    ∙ ap (λ (t : List ℕ). cut_rim surface.cuts (triple_of t))
    (get_or_read surface.over.triples.items (get_or c.args.numbers.now c.loop-number.number-index 0) c.index.result.now
    (c.requires c.loop-number.number-index 0 c.loop-number-test.true) c.index.ensures []))

pub returns : goal.returns
returns c =
    let surface = c.args.surface.now in
    rims_done (λ t. cut_rim surface.cuts (triple_of (get_or surface.over.triples.items t []))) c.args.numbers.now c.loop-number.number-index c.loop-number.rims
    c.loop-number-test.false c.loop-number.invariant
