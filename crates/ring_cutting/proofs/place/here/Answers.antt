use Rattle.face_plane.specs.Rings.{vertex_at}
use Rattle.ring_cutting.specs.Placed.{vertices_of}
use Rattle.ring_cutting.proofs.Reading.{IsRead, read_as, here_read}
use Rattle.ring_cutting.proofs.place.here.Goals as goal

found : (c : goal.After-index-places-i) → IsRead c.args.places.now (vertex_at (vertices_of c.args.places.now) c.args.i) c.index-places-i.result
found c =
    read_as c.args.places.now c.args.i (vertex_at (vertices_of c.args.places.now) c.args.i) c.index-places-i.result c.index-places-i.is
    c.requires (here_read c.args.places.now c.args.i c.requires)

pub returns-clause-vertex : goal.returns-clause-vertex
returns-clause-vertex c = (found c).vertex

pub returns-clause-at : goal.returns-clause-at
returns-clause-at c = (found c).at
