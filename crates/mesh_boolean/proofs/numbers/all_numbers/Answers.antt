use Rattle.std.proofs.Common.{◌∙◌, length, arith, ap}
use Rattle.std.proofs.lemmas.List.{length-map}
use Rattle.mesh_boolean.proofs.numbers.all_numbers.Goals as goal

pub returns-clause-known : goal.returns-clause-known
returns-clause-known g c =
    let p = c.args.p.now in
    let q = c.args.q.now in
    let hits = c.in_ok-hits.ensures in
    let windings = c.in_ok-windings.ensures in
    let few_p = c.twins.ensures.side.accepted.mesh.few_triples in
    let few_q = c.twins-2.ensures.side.accepted.mesh.few_triples in
    record {
      fit = record {
        w03 = ap length windings.w03 ∙ length-map p.corners _;
        w30 = ap length windings.w30 ∙ length-map q.corners _;
        w03_small = λ k d low. omega (arith, windings.p_size k d low, few_q);
        w30_small = λ k d low. omega (arith, windings.q_size k d low, few_p);
        x12 = hits.x12_listed;
        x21 = hits.x21_listed;
      };
      conserved = record { p_edges = windings.p_edge_identity; q_edges = windings.q_edge_identity; pairs = hits.pair_identity };
    }

pub returns-clause-cost : goal.returns-clause-cost
returns-clause-cost g c = c.in_ok-windings.ensures.cost
