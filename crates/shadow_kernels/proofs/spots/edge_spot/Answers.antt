use Rattle.std.proofs.Common.{rules, arith, refl, sym, ap, ◌∙◌}
use Rattle.std.proofs.lemmas.Int.{ints}
use Rattle.side_terms.specs.Corners.{axis}
use Rattle.shadow_kernels.specs.declared.Edge.{Edge}
use Rattle.shadow_kernels.specs.Rules.{edge_spot}
use Rattle.shadow_kernels.specs.Spots.{Between, spot01, spot10}
use Rattle.shadow_kernels.proofs.Values.{kept_value, kept_less, same_marks, same_spot}
use Rattle.shadow_kernels.proofs.spots.edge_spot.Goals as goal

pub returns-in-OfP : goal.returns-in-OfP
unfolding spot10
returns-in-OfP g c =
    let w : Between = g.R.Rounding.between_of c.args.rounding.now in
    let v = c.args.vertex.now in
    same_spot (omega (arith, ints)) (kept_value w 1 c.args.left.now c.args.right.now (axis 0 v) c.edge_value-edge_y.ensures c.requires.fine (search rules))
    (omega (arith, ints)) (kept_value w 2 c.args.left.now c.args.right.now (axis 0 v) c.edge_value-edge_z.ensures c.requires.fine (search rules)) (omega (arith, ints))
    (same_marks c.args.left.now.up c.args.right.now.up c.marks_between.ensures (kept_less c.requires.fine c.requires.left_fine.x)
    (kept_less c.requires.right_fine.x c.requires.fine))
    ∙ ap (λ (e : Edge). edge_spot e w v c.args.left.now c.args.right.now) (sym c.in-OfP.is)

pub returns-in-OfQ : goal.returns-in-OfQ
unfolding spot01
returns-in-OfQ g c =
    let w : Between = g.R.Rounding.between_of c.args.rounding.now in
    same_spot (omega (arith, ints)) (omega (arith, ints))
    (kept_value w 1 c.args.left.now c.args.right.now (axis 0 c.args.vertex.now) c.edge_value-edge_y.ensures c.requires.fine (search rules)) (omega (arith, ints))
    (kept_value w 2 c.args.left.now c.args.right.now (axis 0 c.args.vertex.now) c.edge_value-edge_z.ensures c.requires.fine (search rules)) refl
    ∙ ap (λ (e : Edge). edge_spot e w c.args.vertex.now c.args.left.now c.args.right.now) (sym c.in-OfQ.is)
