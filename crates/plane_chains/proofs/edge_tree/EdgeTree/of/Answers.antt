use Rattle.face_plane.specs.Planes.{face_plane}
use Rattle.plane_chains.proofs.EdgeBoxLists.{all_boxes}
use Rattle.plane_chains.proofs.edge_tree.EdgeTree.of.Goals as goal

pub over-requires-clause-boxes : goal.over-requires-clause-boxes
over-requires-clause-boxes c = all_boxes (face_plane c.args.flat.plane.drop c.args.flat.turned c.args.flat.points.now) c.args.edges.now
