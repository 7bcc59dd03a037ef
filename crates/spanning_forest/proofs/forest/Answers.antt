use Rattle.std.proofs.Common.{arith, ◌≡◌, ◌<◌, ◌≤◌, false, length, ◌∙◌, ap, subst}
use Rattle.std.proofs.lemmas.List.{length-replicate}
use Rattle.chain_terms.specs.Chains.{all_edges}
use Rattle.mesh_terms.specs.Meshes.{triples_of}
use Rattle.spanning_forest.specs.Walks.{AreBegun}
use Rattle.spanning_forest.proofs.Components.{spanning, walked_at_once}
use Rattle.spanning_forest.proofs.Spokes.{edges_below}
use Rattle.spanning_forest.proofs.forest.Goals as goal

pub returns-then-len-points : goal.returns-then-len-points
returns-then-len-points c =
    let ts = triples_of c.args.triples.now in
    let es = all_edges ts in
    let n = c.args.points in
    let seen = c.enter_first.new.seen in
    let entrances = c.enter_first.new.entrances.items in
    let below = edges_below n ts c.requires.mesh.below in
    let full : length c.deref_mut.result.now ≡ n =
    ap length (c.deref_mut.ensures.value ∙ c.in_ok-seen.ensures.items_if_clones_equal (λ y same. same)) ∙ length-replicate n false in
    let some : 0 < n = omega (arith, c.if-points-eq0.false) in
    let all : n ≤ length entrances = omega (arith, c.if-len-points.true, c.len.ensures, c.enter_first.new.entrances.ok.0) in
    spanning es n seen entrances below (walked_at_once es n seen entrances below some all (subst (λ k. AreBegun es k seen entrances) full c.in_ok-enter_first.ensures))
