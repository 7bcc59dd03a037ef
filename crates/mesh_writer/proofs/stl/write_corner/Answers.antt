use Rattle.std.proofs.Common.{◌≡◌, ◌++◌, ◌∙◌, List, [], ℤ, subst}
use Rattle.std.proofs.lemmas.List.{get_or_default}
use Rattle.format_terms.specs.StlWritten.{corner_line, corner_text}
use Rattle.mesh_writer.proofs.Written.{line-wrote, line-broke}
use Rattle.mesh_writer.proofs.stl.write_corner.Goals as goal

-- the line of the corner stands on the page
put : (g : _) (c : goal.After-send_full g) → c.put_corner.new.page.items ≡ c.args.page.now.items ++ corner_line c.args.digits c.args.points.now c.args.vertex
put g c =
    let P : List ℤ → Type 0 = λ p. c.put_corner.new.page.items ≡ c.args.page.now.items ++ corner_text c.args.digits p in
    subst P (c.index-points-vertex.is ∙ get_or_default c.args.points.now c.args.vertex c.index-points-vertex.result [] c.requires.within) c.put_corner.ensures

pub returns-clause-wrote : goal.returns-clause-wrote
returns-clause-wrote g c =
    line-wrote g.K.Sink (corner_line c.args.digits c.args.points.now c.args.vertex) c.args.page.now.items c.put_corner.new.page.items c.args.sink.now c.send_full.new.sink
    (put g c) c.send_full.ensures.kept c.send_full.new.page.items c.send_full.result c.send_full.ensures.passed c.send_full.ensures.count

pub returns-clause-broke : goal.returns-clause-broke
returns-clause-broke g c =
    line-broke g.K.Sink (corner_line c.args.digits c.args.points.now c.args.vertex) c.args.page.now.items c.put_corner.new.page.items c.args.sink.now c.send_full.new.sink
    (put g c) c.send_full.ensures.kept c.send_full.result c.send_full.ensures.stopped c.send_full.ensures.count
