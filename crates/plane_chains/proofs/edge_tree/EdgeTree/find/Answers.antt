use Rattle.face_plane.specs.Planes.{face_plane}
use Rattle.plane_chains.proofs.EdgeBoxLists.{below_upto, found_below, found_near, on_ok}
use Rattle.std.proofs.Common.{length}
use Rattle.plane_chains.proofs.edge_tree.EdgeTree.find.Goals as goal

pub returns-in-Some-clause-below : goal.returns-in-Some-clause-below
returns-in-Some-clause-below c =
    let self = c.args.self.now in
    on_ok c.find_near.result
    (found_below (face_plane self.flat.plane.drop self.flat.turned self.flat.points.now) self.edges.now c.in-Some.tree c.args.area c.find_near.new.near.items
    (self.over c.in-Some.tree c.in-Some.is))
    c.find_near.ensures

pub returns-in-Some-clause-near : goal.returns-in-Some-clause-near
returns-in-Some-clause-near c =
    let self = c.args.self.now in
    on_ok c.find_near.result
    (found_near (face_plane self.flat.plane.drop self.flat.turned self.flat.points.now) self.edges.now c.in-Some.tree c.args.area c.find_near.new.near.items
    (self.over c.in-Some.tree c.in-Some.is))
    c.find_near.ensures

pub returns-in-None-clause-below : goal.returns-in-None-clause-below
returns-in-None-clause-below c = on_ok c.fill_all.result (below_upto (length c.args.self.now.edges.now) c.fill_all.new.near.items) c.fill_all.ensures
