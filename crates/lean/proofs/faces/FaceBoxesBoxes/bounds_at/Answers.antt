use Rattle.std.proofs.Common.{◌<◌, [], arith, get_or, length, refl, sym, ap, ◌∙◌}
use Rattle.mesh_terms.specs.Meshes.{IsBelow, triple_of, triples_of}
use Rattle.box_tree.specs.Coarse.{bounds_around}
use Rattle.lean.specs.Grid.{IsGridStep, fine_box}
use Rattle.lean.proofs.GridBoxes.{bounds_kept, box_at-boxes, length-boxes}
use Rattle.lean.proofs.Triangles.{triple_at}
use Rattle.lean.proofs.faces.FaceBoxesBoxes.bounds_at.Goals as goal

pub face_bounds-bounds-requires : goal.face_bounds-bounds-requires
face_bounds-bounds-requires c =
    let faces = c.args.self.now in
    let xs = faces.triples.now in
    let there : c.args.number < length xs = omega (arith, c.requires.number, length-boxes faces.points.now xs) in
    triple_at (IsBelow _) (triples_of xs) xs c.args.number refl faces.below there

pub returns-then-is_grid_step : goal.returns-then-is_grid_step
returns-then-is_grid_step c =
    let faces = c.args.self.now in
    let points = faces.points.now in
    let xs = faces.triples.now in
    let shift = c.args.shift in
    let step : IsGridStep shift = c.is_grid_step.ensures c.if-is_grid_step.true in
    c.face_bounds-bounds.ensures
    ∙ sym (ap (bounds_around shift) (box_at-boxes points xs c.args.number c.requires.number)
    ∙ bounds_kept shift step points faces.grid (triple_of (get_or xs c.args.number [])))

pub returns-else-is_grid_step : goal.returns-else-is_grid_step
returns-else-is_grid_step c =
    let faces = c.args.self.now in
    c.around.ensures
    ∙ ap (bounds_around c.args.shift) (c.fine_box.ensures ∙ ap fine_box c.face_bounds-bounds.ensures
    ∙ sym (box_at-boxes faces.points.now faces.triples.now c.args.number c.requires.number))
