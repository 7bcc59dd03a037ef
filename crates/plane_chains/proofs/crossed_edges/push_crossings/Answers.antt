use Rattle.std.proofs.Common.{◌<◌, ◌∙◌, ap, get_or, length}
use Rattle.face_plane.specs.Planes.{face_plane}
use Rattle.plane_chains.proofs.PairLists.{pair_left, pair_pushed}
use Rattle.plane_chains.proofs.crossed_edges.push_crossings.Goals as goal
use Rattle.plane_chains.proofs.crossed_edges.push_crossings.Goals.{else-do_cross, then-do_cross+in_ok-push}

pub loop-other-preserved : goal.loop-other-preserved
loop-other-preserved c =
    let flat = c.args.flat.now in
    let at = face_plane flat.plane.drop flat.turned flat.points.now in
    let k = c.loop-other.other-index in
    let low : k < length c.args.near.now = c.loop-other-test.true in
    let there : get_or c.args.near.now k 0 < length c.args.edges.now = c.requires.near k 0 low in
    elim c.if-do_cross.branch [
      | then-do_cross+in_ok-push w ↦
          pair_pushed at c.args.edges.now c.args.number c.args.near.now c.args.pairs.now.items c.requires.number k low there c.do_cross.result c.do_cross.ensures
          c.loop-other.pairs.items c.if-do_cross.pairs.items c.loop-other.invariant w.if-do_cross.true (ap (λ v. v.items) w.pairs-is ∙ w.in_ok-push.ensures.items)
      | else-do_cross w ↦
          pair_left at c.args.edges.now c.args.number c.args.near.now c.args.pairs.now.items c.requires.number k low there c.do_cross.result c.do_cross.ensures
          c.loop-other.pairs.items c.if-do_cross.pairs.items c.loop-other.invariant w.if-do_cross.false (ap (λ v. v.items) w.pairs-is)
    ]
