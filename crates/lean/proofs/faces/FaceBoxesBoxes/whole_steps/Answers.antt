use Rattle.std.proofs.Common.{get_or}
use Rattle.std.proofs.lemmas.List.Elements.{All-map}
use Rattle.mesh_terms.specs.Meshes.{triples_of}
use Rattle.box_tree.specs.Coarse.{IsExact}
use Rattle.lean.specs.Grid.{IsGridStep, face_box}
use Rattle.lean.proofs.GridBoxes.{face_exact}
use Rattle.lean.proofs.faces.FaceBoxesBoxes.whole_steps.Goals as goal

pub returns-then-is_grid_step : goal.returns-then-is_grid_step
returns-then-is_grid_step c =
    let faces = c.args.self.now in
    let points = faces.points.now in
    let ts = triples_of faces.triples.now in
    let shift = c.trailing_zeros-shift.result in
    let step : IsGridStep shift = c.is_grid_step.ensures c.if-is_grid_step.true in
    record { small = step.small; exact = All-map (IsExact shift) (face_box points) ts (λ k d h. face_exact shift step points faces.grid (get_or ts k d)) }
