use Rattle.std.proofs.Common.{ℕ, arith, sym, ◌∙◌}
use Rattle.std.proofs.lemmas.List.{get_or-map, length-map}
use Rattle.mb_base.specs.Boxes.{box_of}
use Rattle.mb_base.specs.declared.point.Box3.{Box3}
use Rattle.side_terms.specs.Sides.{edge_of}
use Rattle.box_tree.specs.Touching.{no_box}
use Rattle.cross_section.proofs.numbers.side.EdgeBoxesBoxes.box_at.Goals as goal

pub edge_box-requires : goal.edge_box-requires
edge_box-requires c =
    let all = c.args.self.now in
    let box : (ℕ × ℕ) → Box3 = λ e. box_of (edge_of all.corners.now e.0 e.1) in
    all.below c.args.number (0, 0) (omega (arith, c.requires, length-map all.edges.now box))

pub returns : goal.returns
returns c =
    let all = c.args.self.now in
    let box : (ℕ × ℕ) → Box3 = λ e. box_of (edge_of all.corners.now e.0 e.1) in
    c.edge_box.ensures ∙ sym (get_or-map box all.edges.now c.args.number (0, 0) no_box (omega (arith, c.requires, length-map all.edges.now box)))
