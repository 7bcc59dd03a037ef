use Rattle.std.proofs.Common.{◌≡◌, ◌*◌, ◌<◌, ◌++◌, ◌∷◌, List, [], ℕ, get_or, length, set, sym, ap, ◌∙◌, arith}
use Rattle.std.specs.List.{All}
use Rattle.std.proofs.lemmas.List.{length-map}
use Rattle.chain_terms.specs.Chains.{all_edges}
use Rattle.chain_terms.specs.Ranks.{start}
use Rattle.halfedge.proofs.Edges.{length-all_edges}
use Rattle.mesh_terms.specs.Meshes.{IsBelow, triple_of, triples_of}
use Rattle.tidy_laws.proofs.Tidying.{start_below}
use Rattle.mesh_tidy.proofs.Starring.{length-stars_to, stars_more, stars_to}
use Rattle.mesh_tidy.proofs.stars.Stars.of.Goals as goal

-- half-edges start at vertices
below_all : (n : ℕ) (triples : List (List ℕ)) (half v : ℕ) → half < 3 * length triples → All (IsBelow n) (triples_of triples) →
    v ≡ start (all_edges (triples_of triples)) half → v < n
below_all n triples half v low below is =
    omega (arith, is, start_below n (triples_of triples) below half (omega (arith, low, length-all_edges (triples_of triples), length-map triples triple_of)))

pub push-requires : goal.push-requires
push-requires c =
    let es = all_edges (triples_of c.args.triples.now) in
    omega (
      arith,
      below_all c.args.vertices c.args.triples.now c.loop-half.half c.start.result c.loop-half-test.true c.requires.below c.start.ensures,
      ap length c.loop-half.invariant,
      length-stars_to c.args.vertices es c.loop-half.half,
    )

pub loop-half-preserved : goal.loop-half-preserved
loop-half-preserved c =
    let n = c.args.vertices in
    let half = c.loop-half.half in
    let v = c.start.result in
    c.in_ok-push.ensures ∙ (λ i. set (c.loop-half.invariant i) v (get_or (c.loop-half.invariant i) v [] ++ half ∷ []))
    ∙ stars_more n (all_edges (triples_of c.args.triples.now)) half v
    (below_all n c.args.triples.now half v c.loop-half-test.true c.requires.below c.start.ensures) (sym c.start.ensures)

pub returns : goal.returns
returns c =
    let ts = triples_of c.args.triples.now in
    let all : c.loop-half.half ≡ length (all_edges ts) =
    omega (arith, c.loop-half-test.false, c.loop-half.auto.half-end, length-all_edges ts, length-map c.args.triples.now triple_of) in
    c.loop-half.invariant ∙ ap (stars_to c.args.vertices (all_edges ts)) all
