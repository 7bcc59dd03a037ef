use Rattle.std.proofs.lemmas.List.Elements.{All-map}
use Rattle.box_tree.specs.Touching.{IsBox}
use Rattle.lean.specs.Grid.{face_box}
use Rattle.lean.proofs.GridBoxes.{face_box-ordered}
use Rattle.lean.proofs.faces.tree_over.Goals as goal

pub over-requires-clause-boxes : goal.over-requires-clause-boxes
over-requires-clause-boxes c = All-map IsBox (face_box c.args.points.now) _ (λ k d h. face_box-ordered c.args.points.now _)
