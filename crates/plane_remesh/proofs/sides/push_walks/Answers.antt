use Rattle.plane_remesh.proofs.Storing.{walks_begun, walks_done, walks_more}
use Rattle.plane_remesh.proofs.sides.push_walks.Goals as goal

pub loop-walk-init : goal.loop-walk-init
loop-walk-init c = walks_begun c.args.regions.now c.requires.are c.requires.made

pub push_walk-requires : goal.push_walk-requires
push_walk-requires c = c.loop-walk.invariant.are

pub loop-walk-preserved : goal.loop-walk-preserved
loop-walk-preserved c =
    walks_more c.args.regions.now c.loop-walk.regions c.push_walk.new.self c.args.walks.now c.loop-walk.walk-index c.walk-item.result c.vertices.result.now c.loop-walk-test.true
    c.walk-item.is c.vertices.ensures c.loop-walk.invariant c.in_ok-push_walk.ensures

pub returns : goal.returns
returns c = walks_done c.args.regions.now c.loop-walk.regions c.args.walks.now c.loop-walk.walk-index c.loop-walk-test.false c.loop-walk.invariant
