use Rattle.std.proofs.Common.{◌≡◌, ◌*◌, ◌<◌, ℕ, List, [], get_or, length, ◌∙◌, arith}
use Rattle.std.specs.List.{All}
use Rattle.std.proofs.lemmas.List.{length-map}
use Rattle.chain_terms.specs.Chains.{all_edges}
use Rattle.chain_terms.specs.Ranks.{start, finish}
use Rattle.halfedge.proofs.Edges.{length-all_edges}
use Rattle.mesh_terms.specs.Meshes.{IsBelow, triple_of, triples_of}
use Rattle.tidy_laws.proofs.Tidying.{finish_below, start_below}
use Rattle.tidy_terms.specs.PointTriples.{same_point}
use Rattle.mesh_tidy.proofs.Compared.{compared}
use Rattle.mesh_tidy.proofs.doubts.lies_at_one.Goals as goal

start_low : (n : ℕ) (triples : List (List ℕ)) (h v : ℕ) → h < 3 * length triples → All (IsBelow n) (triples_of triples) → v ≡ start (all_edges (triples_of triples)) h → v < n
start_low n triples h v low below is =
    omega (arith, is, start_below n (triples_of triples) below h (omega (arith, low, length-all_edges (triples_of triples), length-map triples triple_of)))

end_low : (n : ℕ) (triples : List (List ℕ)) (h v : ℕ) → h < 3 * length triples → All (IsBelow n) (triples_of triples) → v ≡ finish (all_edges (triples_of triples)) h → v < n
end_low n triples h v low below is =
    omega (arith, is, finish_below n (triples_of triples) below h (omega (arith, low, length-all_edges (triples_of triples), length-map triples triple_of)))

pub bounds-points-start : goal.bounds-points-start
bounds-points-start c = start_low (length c.args.points.now) c.args.triples.now c.args.half c.start.result c.requires.half c.requires.below c.start.ensures

pub bounds-points-end : goal.bounds-points-end
bounds-points-end c = end_low (length c.args.points.now) c.args.triples.now c.args.half c.end.result c.requires.half c.requires.below c.end.ensures

pub returns : goal.returns
returns c =
    let points = c.args.points.now in
    let first = start_low (length points) c.args.triples.now c.args.half c.start.result c.requires.half c.requires.below c.start.ensures in
    let last = end_low (length points) c.args.triples.now c.args.half c.end.result c.requires.half c.requires.below c.end.ensures in
    compared points c.start.result c.end.result c.index-points-start.result c.index-points-end.result first last c.index-points-start.is c.index-points-end.is
    c.eq.result c.eq.ensures
    ∙ (λ i. same_point (get_or points (c.start.ensures i) []) (get_or points (c.end.ensures i) []))
