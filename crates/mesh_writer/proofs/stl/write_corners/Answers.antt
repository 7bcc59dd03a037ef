use Rattle.std.proofs.Common.{ℕ, List, ◌++◌}
use Rattle.std.proofs.lemmas.Result.{err_from_is_err_and, on_ok_weaker, on_err_weaker}
use Rattle.mesh_terms.specs.Meshes.{triple_of}
use Rattle.format_terms.specs.StlWritten.{corner_line}
use Rattle.mesh_writer.specs.Passing.{Wrote}
use Rattle.mesh_writer.proofs.Written.{wrote-then, broke-then, broke-longer}
use Rattle.mesh_writer.proofs.stl.write_corners.Goals as goal

pub returns-in_err-write_corner-clause-broke : goal.returns-in_err-write_corner-clause-broke
returns-in_err-write_corner-clause-broke g c =
    let p = err_from_is_err_and c.from_residual.result c.from_residual.ensures.1 in
    let corner : ℕ → List ℕ = λ v. corner_line c.args.digits c.args.points.now v in
    let t = triple_of c.args.triple.now in
    let h = c.args.page.now.items in
    let s = c.args.sink.now in
    let u = c.write_corner.new.sink in
    rw p.1 (broke-longer g.K.Sink _ (corner t.2) h s u (broke-longer g.K.Sink (corner t.0) (corner t.1) h s u c.in_err-write_corner.ensures.broke))

pub returns-in_err-write_corner-2-clause-broke : goal.returns-in_err-write_corner-2-clause-broke
returns-in_err-write_corner-2-clause-broke g c =
    let p = err_from_is_err_and c.from_residual-in_err-write_corner-2.result c.from_residual-in_err-write_corner-2.ensures.1 in
    let corner : ℕ → List ℕ = λ v. corner_line c.args.digits c.args.points.now v in
    let t = triple_of c.args.triple.now in
    let h = c.args.page.now.items in
    let s = c.args.sink.now in
    let u = c.write_corner-2.new.sink in
    rw p.1 (broke-longer g.K.Sink _ (corner t.2) h s u
    (broke-then g.K.Sink (corner t.0) (corner t.1) h _ s _ u c.in_ok-write_corner.ensures.wrote c.in_err-write_corner-2.ensures.broke))

-- the lines of the first two corners were written
two : (g : _) (c : goal.After-write_corner-3 g) →
    Wrote g.K.Sink (corner_line c.args.digits c.args.points.now (triple_of c.args.triple.now).0 ++ corner_line c.args.digits c.args.points.now (triple_of c.args.triple.now).1)
    (c.args.page.now.items, c.write_corner-2.new.page.items) (c.args.sink.now, c.write_corner-2.new.sink)
two g c =
    let corner : ℕ → List ℕ = λ v. corner_line c.args.digits c.args.points.now v in
    let t = triple_of c.args.triple.now in
    wrote-then g.K.Sink (corner t.0) (corner t.1) c.args.page.now.items _ c.write_corner-2.new.page.items c.args.sink.now _ c.write_corner-2.new.sink
    c.in_ok-write_corner.ensures.wrote c.in_ok-write_corner-2.ensures.wrote

pub returns-clause-wrote : goal.returns-clause-wrote
returns-clause-wrote g c =
    let last = corner_line c.args.digits c.args.points.now (triple_of c.args.triple.now).2 in
    on_ok_weaker c.write_corner-3.result
    (λ w. wrote-then g.K.Sink _ last c.args.page.now.items _ c.write_corner-3.new.page.items c.args.sink.now _ c.write_corner-3.new.sink (two g c) w)
    c.write_corner-3.ensures.wrote

pub returns-clause-broke : goal.returns-clause-broke
returns-clause-broke g c =
    let last = corner_line c.args.digits c.args.points.now (triple_of c.args.triple.now).2 in
    on_err_weaker c.write_corner-3.result
    (λ b. broke-then g.K.Sink _ last c.args.page.now.items _ c.args.sink.now _ c.write_corner-3.new.sink (two g c) b)
    c.write_corner-3.ensures.broke
