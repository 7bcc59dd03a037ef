use Rattle.std.proofs.Common.{[], sym, subst}
use Rattle.std.specs.List.{All}
use Rattle.chain_terms.specs.Chains.{all_edges}
use Rattle.mesh_terms.specs.Meshes.{IsBelow, triples_of}
use Rattle.spanning_forest.proofs.Reaching.{reached_none, reached_on}
use Rattle.spanning_forest.proofs.passes.enter_along.Goals as goal

pub loop-place-init : goal.loop-place-init
loop-place-init c = reached_none (all_edges (triples_of c.args.triples.now)) c.args.seen.now c.args.entrances.now.items c.requires.entered

pub enter_face-requires-clause-below : goal.enter_face-requires-clause-below
enter_face-requires-clause-below c = subst (λ n. All (IsBelow n) (triples_of c.args.triples.now)) (sym c.loop-place.invariant.full) c.requires.below

pub loop-place-preserved : goal.loop-place-preserved
loop-place-preserved c =
    reached_on (all_edges (triples_of c.args.triples.now)) [] [] c.args.seen.now c.args.entrances.now.items c.loop-place.seen c.loop-place.entrances.items c.enter_face.new.seen
    c.enter_face.new.entrances.items c.loop-place.invariant c.in_ok-enter_face.ensures.more
