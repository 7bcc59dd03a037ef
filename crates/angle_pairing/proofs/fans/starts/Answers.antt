use Rattle.std.proofs.Common.{◌≡◌, ◌∙◌, length, map, refl, ap, arith}
use Rattle.std.proofs.lemmas.List.{take_all}
use Rattle.chain_terms.specs.Chains.{all_edges}
use Rattle.mesh_terms.specs.Meshes.{triples_of}
use Rattle.angle_pairing.proofs.Lists.{starts_listed, starts_step}
use Rattle.angle_pairing.proofs.fans.starts.Goals as goal

pub loop-a-preserved : goal.loop-a-preserved
loop-a-preserved c =
    starts_step c.args.triples.now c.loop-a.a-index _ _ _ _ _ c.loop-a-test.true refl c.loop-a.invariant c.in_ok-extend_from_slice.ensures.items

pub returns : goal.returns
returns c =
    let ts = c.args.triples.now in
    let end : c.loop-a.a-index ≡ length ts = omega (arith, c.loop-a-test.false, c.loop-a.auto.a-index-end) in
    c.loop-a.invariant ∙ ap (λ l. map (λ e. e.0) (all_edges (triples_of l))) (take_all c.loop-a.a-index ts (omega (arith, end))) ∙ starts_listed (all_edges (triples_of ts))
