use Rattle.std.proofs.Common.{ℕ, ℤ, List, length, sym, subst, ◌∙◌}
use Rattle.chain_terms.specs.Chains.{all_edges}
use Rattle.chain_terms.specs.Odd.{SameChain}
use Rattle.chain_terms.specs.Paths.{round_edges}
use Rattle.std.specs.List.{All, flat_map}
use Rattle.mesh_terms.specs.Meshes.{IsBelow}
use Rattle.hole_joining.specs.Laws.{AreFillable, settled_in}
use Rattle.triangulate.specs.Fills.{fill_of}
use Rattle.triangulate.specs.Laws.{HasCount}
use Rattle.cross_section.proofs.Solids.{filling_few, outline_fillable}
use Rattle.cross_section.proofs.extrusion.extruding.filled_loops.Goals as goal

pub fill-requires-clause-loops : goal.fill-requires-clause-loops
fill-requires-clause-loops c =
    subst (λ (x : List (List ℕ) × List (List ℤ)). AreFillable x.0 (length x.1))
    (λ i. (sym c.loops.ensures.value i, sym c.points.ensures.value i)) (outline_fillable c.args.outline.now c.points.ensures.outline)

pub returns-clause-value : goal.returns-clause-value
returns-clause-value c = c.in_ok-filled.ensures.value ∙ (λ i. fill_of 2 (c.points.ensures.value i) (c.loops.ensures.value i))

pub returns-clause-over : goal.returns-clause-over
returns-clause-over c =
    let ts = c.in_ok-filled.filled.triples in
    record {
      three = c.in_ok-filled.ensures.proper.three;
      below = subst (λ (ps : List (List ℤ)). All (IsBelow (length ps)) ts) c.points.ensures.value c.in_ok-filled.ensures.proper.below;
      chain = subst (λ (ls : List (List ℕ)). SameChain (all_edges ts) (flat_map round_edges ls)) c.loops.ensures.value c.in_ok-filled.ensures.keeps.chain;
    }

pub returns-clause-few : goal.returns-clause-few
returns-clause-few c =
    let o = c.args.outline.now in
    let ts = c.in_ok-filled.filled.triples in
    let plane = settled_in 2 c.points.result.now c.loops.result.now in
    filling_few o c.points.ensures.outline plane ts (subst (λ (ls : List (List ℕ)). HasCount plane ls ts) c.loops.ensures.value c.in_ok-filled.ensures.count)
