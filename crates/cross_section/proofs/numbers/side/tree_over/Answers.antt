use Rattle.std.proofs.Common.{ℕ, arith}
use Rattle.std.proofs.lemmas.List.Elements.{All-map}
use Rattle.mb_base.specs.Boxes.{box_of}
use Rattle.mb_base.specs.declared.point.Box3.{Box3}
use Rattle.side_terms.specs.Sides.{edge_of}
use Rattle.box_tree.specs.Touching.{IsBox}
use Rattle.lean.proofs.Apart.{box_ordered}
use Rattle.cross_section.proofs.numbers.side.tree_over.Goals as goal

pub over-requires-clause-boxes : goal.over-requires-clause-boxes
over-requires-clause-boxes c =
    let box : (ℕ × ℕ) → Box3 = λ e. box_of (edge_of c.args.corners.now e.0 e.1) in
    All-map IsBox box _ (λ k d h. box_ordered (edge_of c.args.corners.now _ _) (omega arith))
