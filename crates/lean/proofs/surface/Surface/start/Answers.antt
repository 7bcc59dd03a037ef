use Rattle.std.proofs.Common.{◌*◌, ◌<◌, List, length, arith, ap, sym, subst, ◌∙◌}
use Rattle.std.proofs.lemmas.List.{length-map}
use Rattle.chain_terms.specs.Chains.{all_edges}
use Rattle.chain_terms.specs.Ranks.{start}
use Rattle.mesh_terms.specs.Meshes.{Triple, triple_of}
use Rattle.lean.proofs.Triangles.{start_listed, start_below}
use Rattle.lean.proofs.surface.Surface.start.Goals as goal

pub returns-clause-value : goal.returns-clause-value
returns-clause-value c =
    let xs = c.triples.result.now in
    let h = c.args.half in
    let long : h < 3 * length xs = omega (arith, c.requires, ap length c.triples.ensures.value, length-map xs triple_of) in
    sym (start_listed xs h long) ∙ ap (λ (ts : List Triple). start (all_edges ts) h) c.triples.ensures.value

pub returns-clause-below : goal.returns-clause-below
returns-clause-below c =
    let side = c.args.self.now in
    subst (λ v. v < length side.corners) (sym (returns-clause-value c))
    (start_below (length side.corners) side.triples c.args.half c.triples.ensures.side.accepted.mesh.below c.requires)
