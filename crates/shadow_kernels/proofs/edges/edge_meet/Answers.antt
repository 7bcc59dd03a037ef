use Rattle.std.proofs.Common.{◌≡◌, Some, sym, subst}
use Rattle.shadow_kernels.specs.Bounds.{IsFinePair}
use Rattle.shadow_kernels.specs.Edges.{edge_meet}
use Rattle.shadow_kernels.specs.FinePairs.{edge_fine}
use Rattle.shadow_kernels.specs.Rules.{Rule}
use Rattle.shadow_kernels.specs.Spots.{Between}
use Rattle.shadow_kernels.proofs.Branches.{first_alone, second_alone, at_neither, at_first, at_second, made_at}
use Rattle.shadow_kernels.proofs.edges.edge_meet.Goals as goal

pub returns-then-past_c-past_d-clause-value : goal.returns-then-past_c-past_d-clause-value
returns-then-past_c-past_d-clause-value g c =
    at_neither c.args.edge _ _ c.args.vertex.now c.args.c.now c.args.d.now c.is_past-past_c.ensures c.is_past-past_d.ensures c.if-past_c-past_d.true

pub returns-then-past_c : goal.returns-then-past_c
returns-then-past_c g c =
    let k : Rule = g.K.Rules.rule_of c.args.kernel.now in
    let w : Between = g.K.Rounding.between_of c.args.kernel.now in
    let value : Some c.meet_at_edge.result ≡ edge_meet c.args.edge k w c.args.vertex.now c.args.c.now c.args.d.now =
    made_at (at_first c.args.edge k w c.args.vertex.now c.args.c.now c.args.d.now
    (first_alone c.is_past-past_c.ensures c.is_past-past_d.ensures c.if-past_c-past_d.false c.if-past_c.true)) c.meet_at_edge.ensures in
    record {
      value = value;
      fine =
          subst IsFinePair (sym value) (edge_fine c.args.edge (g.met.K.Rules.lawful c.args.kernel.now) c.args.vertex.now c.args.c.now c.args.d.now
          c.requires.vertex_fine c.requires.c_fine c.requires.d_fine);
    }

pub returns-else-past_c : goal.returns-else-past_c
returns-else-past_c g c =
    let k : Rule = g.K.Rules.rule_of c.args.kernel.now in
    let w : Between = g.K.Rounding.between_of c.args.kernel.now in
    let value : Some c.meet_at_edge-else-past_c.result ≡ edge_meet c.args.edge k w c.args.vertex.now c.args.c.now c.args.d.now =
    made_at (at_second c.args.edge k w c.args.vertex.now c.args.c.now c.args.d.now
    (second_alone c.is_past-past_c.ensures c.is_past-past_d.ensures c.if-past_c-past_d.false c.if-past_c.false)) c.meet_at_edge-else-past_c.ensures in
    record {
      value = value;
      fine =
          subst IsFinePair (sym value) (edge_fine c.args.edge (g.met.K.Rules.lawful c.args.kernel.now) c.args.vertex.now c.args.c.now c.args.d.now
          c.requires.vertex_fine c.requires.c_fine c.requires.d_fine);
    }
