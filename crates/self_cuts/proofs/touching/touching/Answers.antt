use Rattle.std.proofs.Common.{◌≡◌, ◌<◌, ◌∙◌, ℕ, ap, arith, get_or, length, map, replicate, subst, sym}
use Rattle.std.specs.List.{All}
use Rattle.std.proofs.lemmas.List.{length-map, length-replicate}
use Rattle.chain_terms.specs.Sums.{upto}
use Rattle.places_by_key.specs.Buckets.{places_of}
use Rattle.inspection_laws.specs.Sharing.{edges_upto}
use Rattle.inspection_laws.proofs.Ends.{few_edges, highs_below, zeros}
use Rattle.self_cuts.proofs.touching.touching.Goals as goal
use Rattle.self_cuts.proofs.touching.touching.Goals.{After-deref_mut}

pub edges-requires : goal.edges-requires
edges-requires c = c.requires.full

pub by_key-requires-clause-below : goal.by_key-requires-clause-below
by_key-requires-clause-below c =
    subst (All (λ k. k < (length c.args.firsts.now))) (sym (c.deref.ensures.value ∙ c.in_ok-edges.ensures.highs))
    (λ k d h. omega (
      arith,
      highs_below c.args.mesh.now c.args.firsts.now c.requires c.triples.ensures.accepted.mesh.below k d h,
      c.requires.full,
    ))

pub by_key-requires-clause-few : goal.by_key-requires-clause-few
by_key-requires-clause-few c =
    let m = c.args.mesh.now in
    let edges = edges_upto m c.args.firsts.now (length m.triples) in
    let few = c.triples.ensures.accepted.mesh.few_triples in
    omega (
      arith,
      ap length (c.deref.ensures.value ∙ c.in_ok-edges.ensures.highs),
      length-map edges (λ (e : ℕ × ℕ). e.1),
      few_edges m c.args.firsts.now (length m.triples),
      few,
    )

-- nothing is met before
uses_are : (c : After-deref_mut) → c.deref_mut.result.now ≡ replicate (length c.args.firsts.now) 0
uses_are c = c.deref_mut.ensures.value ∙ c.in_ok-uses.ensures.items_if_clones_equal (λ y same. same)

pub touching_of-requires-clause-by_high : goal.touching_of-requires-clause-by_high
touching_of-requires-clause-by_high c =
    c.in_ok-by_high.ensures ∙ (λ i. map (places_of (c.deref.ensures.value i)) (upto (c.requires.full i)))

pub touching_of-requires-clause-full : goal.touching_of-requires-clause-full
touching_of-requires-clause-full c =
    let is = uses_are (goal.at.touching_of-requires-clause-full c).After-deref_mut in
    ap length is ∙ length-replicate (length c.args.firsts.now) 0 ∙ c.requires.full

pub touching_of-requires-clause-none : goal.touching_of-requires-clause-none
touching_of-requires-clause-none c =
    let is = uses_are (goal.at.touching_of-requires-clause-none c).After-deref_mut in
    λ s. ap (λ xs. get_or xs s 0) is ∙ zeros (length c.args.firsts.now) s
