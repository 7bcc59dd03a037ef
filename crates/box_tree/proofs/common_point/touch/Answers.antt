use Rattle.std.proofs.Common.{◌∙◌, sym}
use Rattle.box_tree.proofs.Points.{touching_common, common_touching}
use Rattle.box_tree.proofs.common_point.touch.Goals as goal

pub returns-clause-common : goal.returns-clause-common
returns-clause-common c = (
  λ t. touching_common c.args.a.now c.args.b.now (sym c.overlap_everywhere.ensures ∙ t),
  λ p. c.overlap_everywhere.ensures ∙ common_touching c.args.a.now c.args.b.now p,
)
