use Rattle.std.proofs.Common.{length, ap, sym, subst, ◌∙◌}
use Rattle.std.specs.List.{All, flat_map}
use Rattle.chain_terms.specs.Paths.{round_edges}
use Rattle.outline_terms.specs.Outlines.{IsBetween}
use Rattle.outline_terms.proofs.Edges.{edges_between, edges_long}
use Rattle.outlines.proofs.outline.Outline.edges.Goals as goal

pub returns-clause-value : goal.returns-clause-value
returns-clause-value c = c.in_ok-edges.ensures ∙ ap (flat_map round_edges) c.loops.ensures.value

pub returns-clause-between : goal.returns-clause-between
returns-clause-between c =
    let o = c.args.self.now in
    subst (All (IsBetween (length o.points))) (sym (c.in_ok-edges.ensures ∙ ap (flat_map round_edges) c.loops.ensures.value)) (edges_between o c.loops.ensures.outline)

pub returns-clause-length : goal.returns-clause-length
returns-clause-length c = ap length (c.in_ok-edges.ensures ∙ ap (flat_map round_edges) c.loops.ensures.value) ∙ edges_long c.args.self.now c.loops.ensures.outline
