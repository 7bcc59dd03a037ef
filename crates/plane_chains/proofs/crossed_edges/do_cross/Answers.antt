use Rattle.std.proofs.Common.{sym, ◌∙◌}
use Rattle.face_plane.specs.Planes.{face_plane}
use Rattle.plane_chains.specs.EdgeBoxes.{pair_of}
use Rattle.plane_chains.proofs.Crossing.{common_apart}
use Rattle.plane_chains.proofs.crossed_edges.do_cross.Goals as goal

pub returns-then-have_common_end : goal.returns-then-have_common_end
returns-then-have_common_end c =
    let flat = c.args.flat.now in
    sym (common_apart (face_plane flat.plane.drop flat.turned flat.points.now) (pair_of c.args.one) (pair_of c.args.other) (sym c.have_common_end.ensures ∙ c.if-have_common_end.true))
