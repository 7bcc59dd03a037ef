use Rattle.std.proofs.Common.{arith, ℕ, ℤ, List, get_or}
use Rattle.std.proofs.lemmas.Int.{ints, clamps}
use Rattle.std.proofs.lemmas.List.Elements.{All-map}
use Rattle.box_tree.specs.Touching.{IsBox}
use Rattle.hole_joining.specs.Obstacles.{box_round, edge_box}
use Rattle.hole_joining.specs.Seen.{plane_at}
use Rattle.hole_joining.proofs.obstacles.tree_over.Goals as goal

-- low is at most high
box_ordered : (a b : ℤ × ℤ) → IsBox (box_round a b)
box_ordered a b = record { x = omega (arith, ints, clamps); y = omega (arith, ints, clamps); z = omega (arith, ints) }

pub over-requires-clause-boxes : goal.over-requires-clause-boxes
over-requires-clause-boxes c =
    let at = plane_at c.args.flat.now in
    let edges : List (ℕ × ℕ) = c.args.edges.now in
    All-map IsBox (edge_box at) edges (λ k d h. box_ordered (at (get_or edges k d).0) (at (get_or edges k d).1))
