use Rattle.std.proofs.Common.{arith}
use Rattle.face_loops.specs.Segments.{edges_of}
use Rattle.face_loops.proofs.Listing.{start_from_list}
use Rattle.face_loops.proofs.Reading.{length-edges_of, looked_up}
use Rattle.face_loops.proofs.starts.place_from.Goals as goal

pub returns-then-segments-le-FEW : goal.returns-then-segments-le-FEW
returns-then-segments-le-FEW c = looked_up c.args.segments.now c.args.vertex c.looked_up.result c.looked_up.ensures

pub returns : goal.returns
returns c =
    let has = c.requires (omega (arith, length-edges_of c.args.segments.now)) in
    start_from_list (edges_of c.args.segments.now) c.args.index.now c.args.vertex c.halved.result has c.halved.ensures
