use Rattle.std.proofs.Common.{arith}
use Rattle.face_plane.specs.Planes.{face_plane}
use Rattle.plane_chains.specs.EdgeBoxes.{pair_of}
use Rattle.plane_chains.specs.Pairs.{option_list}
use Rattle.plane_chains.proofs.PartWays.{part_of_crossing, point_of_crossing}
use Rattle.plane_chains.proofs.grid_crossings.grid_point.Goals as goal

pub turn_at-before-requires-clause-place : goal.turn_at-before-requires-clause-place
turn_at-before-requires-clause-place c = c.requires.edge 0 0 (omega arith)

pub turn_at-requires-clause-place : goal.turn_at-requires-clause-place
turn_at-requires-clause-place c = c.requires.edge 1 0 (omega arith)

pub point-requires : goal.point-requires
point-requires c = c.requires.edge 0 0 (omega arith)

pub point-requires-2 : goal.point-requires-2
point-requires-2 c = c.requires.edge 1 0 (omega arith)

pub part_point-requires-clause-part : goal.part_point-requires-clause-part
part_point-requires-clause-part c =
    let flat = c.args.flat.now in
    let at = face_plane flat.plane.drop flat.turned flat.points.now in
    part_of_crossing at (pair_of c.args.edge) (pair_of c.args.other) c.turn_at-before.result c.turn_at.result c.difference-whole.result c.requires.crossing
    c.turn_at-before.ensures.value c.turn_at.ensures.value (record { sfits = c.turn_at-before.type_inv }) (record { sfits = c.turn_at.type_inv })
    (record { sfits = c.difference-whole.type_inv }) c.difference-whole.ensures

pub returns-clause-point : goal.returns-clause-point
returns-clause-point c =
    let flat = c.args.flat.now in
    let at = face_plane flat.plane.drop flat.turned flat.points.now in
    point_of_crossing at (pair_of c.args.edge) (pair_of c.args.other) c.turn_at-before.result c.turn_at.result c.difference-whole.result c.requires.crossing
    c.turn_at-before.ensures.value c.turn_at.ensures.value (record { sfits = c.turn_at-before.type_inv }) (record { sfits = c.turn_at.type_inv })
    (record { sfits = c.difference-whole.type_inv }) c.difference-whole.ensures flat.points.now c.point.result c.point-2.result (option_list c.part_point.result)
    c.point.ensures c.point-2.ensures c.part_point.ensures.point
