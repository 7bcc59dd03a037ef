use Rattle.face_plane.specs.Planes.{face_plane}
use Rattle.plane_chains.specs.EdgeBoxes.{edge_boxes}
use Rattle.plane_chains.proofs.PairLists.{rows_more}
use Rattle.plane_chains.proofs.crossed_edges.crossings.Goals as goal

pub loop-number-preserved : goal.loop-number-preserved
loop-number-preserved c =
    let tree = c.in_ok-tree.tree in
    rows_more (face_plane c.args.flat.plane.drop c.args.flat.turned c.args.flat.points.now) c.args.edges.now
    (edge_boxes (face_plane tree.flat.plane.drop tree.flat.turned tree.flat.points.now) tree.edges.now) c.box_of.result c.find.new.near.items c.deref.result.now c.loop-number.number
    c.loop-number.pairs.items c.push_crossings.new.pairs.items c.loop-number-test.true c.in_ok-tree.ensures.boxes c.box_of.ensures c.in_ok-find.ensures.near
    c.loop-number.invariant c.deref.ensures.value c.in_ok-push_crossings.ensures
