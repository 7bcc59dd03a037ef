use Rattle.std.proofs.Common.{get_or}
use Rattle.face_plane.specs.Planes.{face_plane}
use Rattle.plane_chains.specs.Pairs.{option_list}
use Rattle.plane_chains.proofs.PartWays.{crosses_there, point_there}
use Rattle.plane_chains.proofs.grid_crossings.pair_point.Goals as goal

pub grid_point-requires-clause-crossing : goal.grid_point-requires-clause-crossing
grid_point-requires-clause-crossing c =
    let flat = c.args.flat.now in
    let at = face_plane flat.plane.drop flat.turned flat.points.now in
    crosses_there at c.args.edges.now (get_or c.args.pair 0 0) (get_or c.args.pair 1 0) c.requires.one c.requires.other c.requires.crosses

pub returns-clause-point : goal.returns-clause-point
returns-clause-point c =
    let flat = c.args.flat.now in
    let at = face_plane flat.plane.drop flat.turned flat.points.now in
    point_there at c.args.edges.now (get_or c.args.pair 0 0) (get_or c.args.pair 1 0) c.requires.one c.requires.other flat.points.now (option_list c.grid_point.result)
    c.grid_point.ensures.point
