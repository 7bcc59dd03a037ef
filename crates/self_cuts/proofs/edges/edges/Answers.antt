use Rattle.std.proofs.Common.{◌≡◌, ◌∙◌, ap, arith, length, map}
use Rattle.inspection_laws.specs.Sharing.{edges_upto}
use Rattle.inspection_laws.proofs.Sharing.{ends_more}
use Rattle.self_cuts.proofs.edges.edges.Goals as goal

pub loop-t-preserved : goal.loop-t-preserved
loop-t-preserved c = record {
  lows = ends_more c.args.mesh.now c.args.firsts.now (λ e. e.0) c.loop-t.t c.loop-t.lows.items _ c.loop-t.invariant.lows c.in_ok-push_full.ensures.lows;
  highs = ends_more c.args.mesh.now c.args.firsts.now (λ e. e.1) c.loop-t.t c.loop-t.highs.items _ c.loop-t.invariant.highs c.in_ok-push_full.ensures.highs;
}

pub returns-clause-lows : goal.returns-clause-lows
returns-clause-lows c =
    let m = c.args.mesh.now in
    let end : c.loop-t.t ≡ length m.triples = omega (arith, c.loop-t-test.false, c.loop-t.auto.t-end, c.triangles-t-end.ensures.value) in
    c.loop-t.invariant.lows ∙ ap (λ n. map (λ e. e.0) (edges_upto m c.args.firsts.now n)) end

pub returns-clause-highs : goal.returns-clause-highs
returns-clause-highs c =
    let m = c.args.mesh.now in
    let end : c.loop-t.t ≡ length m.triples = omega (arith, c.loop-t-test.false, c.loop-t.auto.t-end, c.triangles-t-end.ensures.value) in
    c.loop-t.invariant.highs ∙ ap (λ n. map (λ e. e.1) (edges_upto m c.args.firsts.now n)) end
