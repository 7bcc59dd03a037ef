use Rattle.std.proofs.Common.{[], subst}
use Rattle.std.proofs.lemmas.List.{get_or_read}
use Rattle.std.proofs.lemmas.List.Elements.{All-more}
use Rattle.mesh_terms.specs.Points.{IsPoint}
use Rattle.geometric_laws.proofs.calls.read_points.Goals as goal

pub loop-point-preserved : goal.loop-point-preserved
loop-point-preserved c =
    let here = get_or_read c.args.points.now c.loop-point.point-index c.point-item.result c.loop-point-test.true c.point-item.is [] in
    All-more IsPoint c.args.points.now c.loop-point.point-index [] c.loop-point-test.true c.loop-point.invariant (subst IsPoint here c.at.ensures.on_grid)
