use Rattle.std.proofs.Common.{◌∙◌, arith}
use Rattle.plane_remesh.proofs.Viewing.{corners_low, drop_read, stored_many, turned_read}
use Rattle.plane_remesh.proofs.surface.CutSurface.towards.Goals as goal

pub index-requires-2 : goal.index-requires-2
index-requires-2 c =
    let w = c.requires in
    omega (arith, (corners_low w.0 w.1 c.args.self.now w.2 c.args.face w.3 c.index.result.now c.index.ensures).a, c.args.self.now.over.points.ok.0)

pub index-requires-3 : goal.index-requires-3
index-requires-3 c =
    let w = c.requires in
    omega (arith, (corners_low w.0 w.1 c.args.self.now w.2 c.args.face w.3 c.index.result.now c.index.ensures).b, c.args.self.now.over.points.ok.0)

pub index-requires-4 : goal.index-requires-4
index-requires-4 c =
    let w = c.requires in
    omega (arith, (corners_low w.0 w.1 c.args.self.now w.2 c.args.face w.3 c.index.result.now c.index.ensures).c, c.args.self.now.over.points.ok.0)

pub returns-clause-drop : goal.returns-clause-drop
returns-clause-drop c = λ points all is.
    let w = c.requires in
    let u = c.args.self.now in
    c.towards.ensures.drop ∙ drop_read points all u is c.args.face (omega (arith, w.3, stored_many w.0 w.1 u w.2, stored_many points all u is)) c.index.result.now
    c.index-2.result.now
    c.index-3.result.now c.index-4.result.now c.index.ensures c.index-2.ensures c.index-3.ensures c.index-4.ensures

pub returns-clause-turned : goal.returns-clause-turned
returns-clause-turned c = λ points all is.
    let w = c.requires in
    let u = c.args.self.now in
    c.towards.ensures.turned ∙ turned_read points all u is c.args.face (omega (arith, w.3, stored_many w.0 w.1 u w.2, stored_many points all u is)) c.index.result.now
    c.index-2.result.now
    c.index-3.result.now c.index-4.result.now c.index.ensures c.index-2.ensures c.index-3.ensures c.index-4.ensures
