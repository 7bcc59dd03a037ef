use Rattle.std.proofs.Common.{◌≡◌, [], arith, subst}
use Rattle.std.proofs.lemmas.List.{get_or_read}
use Rattle.face_plane.specs.Planes.{point_at}
use Rattle.edge_cutting.specs.Spans.{IsCommonStep}
use Rattle.edge_cutting.proofs.LongEdges.{in_ones, in_steps, steps_more}
use Rattle.edge_cutting.proofs.edges.unit_of.Goals as goal

pub loop-point-init : goal.loop-point-init
loop-point-init c = λ v low. absurd (omega (arith, low))

pub returns-then-unit-eq1 : goal.returns-then-unit-eq1
returns-then-unit-eq1 c = in_ones c.args.points.now

pub loop-point-preserved : goal.loop-point-preserved
loop-point-preserved c =
    let points = c.args.points.now in
    let i = c.loop-point.point-index in
    let p : c.index-points-0.result ≡ point_at points 0 = get_or_read points 0 c.index-points-0.result (omega (arith, c.loop-point-test.true)) c.index-points-0.is [] in
    let q : c.point-item.result ≡ point_at points i = get_or_read points i c.point-item.result c.loop-point-test.true c.point-item.is [] in
    let common : IsCommonStep (point_at points 0) (point_at points i) c.common_step.result =
    subst (λ t. IsCommonStep (point_at points 0) t c.common_step.result) q (subst (λ t. IsCommonStep t c.point-item.result c.common_step.result) p c.common_step.ensures.common) in
    steps_more points c.loop-point.unit c.common_step.result c.divisor-unit.result i c.divisor-unit.ensures common c.loop-point.invariant

pub returns : goal.returns
returns c = in_steps c.loop-point.unit c.args.points.now (λ v low. c.loop-point.invariant v (omega (arith, low, c.loop-point-test.false)))
