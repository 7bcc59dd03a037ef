use Rattle.std.proofs.Common.{length, set, true, sym, subst}
use Rattle.std.specs.List.{All}
use Rattle.chain_terms.specs.Chains.{all_edges}
use Rattle.mesh_terms.specs.Meshes.{IsBelow, triples_of}
use Rattle.spanning_forest.specs.Walks.{AreBegun}
use Rattle.spanning_forest.proofs.Passing.{begun_first, begun_on}
use Rattle.spanning_forest.proofs.passes.enter_first.Goals as goal

pub loop-pass-init : goal.loop-pass-init
loop-pass-init c =
    let es = all_edges (triples_of c.args.triples.now) in
    let seen = c.args.seen.now in
    subst (AreBegun es (length seen) (set seen 0 true)) (sym c.in_ok-push.ensures.items)
    (begun_first es seen c.args.entrances.now.items c.requires.entered c.requires.none c.requires.some)

pub enter_along-requires-clause-below : goal.enter_along-requires-clause-below
enter_along-requires-clause-below c = subst (λ n. All (IsBelow n) (triples_of c.args.triples.now)) (sym c.loop-pass.invariant.full) c.requires.below

pub loop-pass-preserved : goal.loop-pass-preserved
loop-pass-preserved c =
    begun_on (all_edges (triples_of c.args.triples.now)) (length c.args.seen.now) c.loop-pass.seen
    c.loop-pass.entrances.items c.enter_along.new.seen c.enter_along.new.entrances.items
    c.loop-pass.invariant c.in_ok-enter_along.ensures
