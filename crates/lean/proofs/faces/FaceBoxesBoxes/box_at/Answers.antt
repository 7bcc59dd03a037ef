use Rattle.std.proofs.Common.{◌<◌, arith, length, refl, sym, ap, ◌∙◌}
use Rattle.mesh_terms.specs.Meshes.{IsBelow, triples_of}
use Rattle.lean.specs.Grid.{fine_box}
use Rattle.lean.proofs.GridBoxes.{box_at-boxes, length-boxes}
use Rattle.lean.proofs.Triangles.{triple_at}
use Rattle.lean.proofs.faces.FaceBoxesBoxes.box_at.Goals as goal

pub face_bounds-requires : goal.face_bounds-requires
face_bounds-requires c =
    let faces = c.args.self.now in
    let xs = faces.triples.now in
    let there : c.args.number < length xs = omega (arith, c.requires, length-boxes faces.points.now xs) in
    triple_at (IsBelow _) (triples_of xs) xs c.args.number refl faces.below there

pub returns : goal.returns
returns c =
    let faces = c.args.self.now in
    c.fine_box.ensures ∙ ap fine_box c.face_bounds.ensures ∙ sym (box_at-boxes faces.points.now faces.triples.now c.args.number c.requires)
