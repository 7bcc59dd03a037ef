use Rattle.std.proofs.Common.{arith}
use Rattle.std.proofs.lemmas.Int.{ints}
use Rattle.std.proofs.lemmas.List.Elements.{All-map}
use Rattle.box_tree.specs.Touching.{IsBox}
use Rattle.edge_cutting.specs.Boxes.{point_box}
use Rattle.edge_cutting.proofs.place_boxes.tree_over.Goals as goal

pub over-requires-clause-boxes : goal.over-requires-clause-boxes
over-requires-clause-boxes c = All-map IsBox point_box c.args.points.now (λ k d low. record { x = omega (arith, ints); y = omega (arith, ints); z = omega (arith, ints) })
