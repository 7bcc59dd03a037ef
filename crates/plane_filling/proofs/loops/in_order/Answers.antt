use Rattle.plane_filling.proofs.Sorted.{is_before}
use Rattle.plane_filling.proofs.loops.in_order.Goals as goal

pub returns : goal.returns
returns c = is_before c.args.a.now c.args.b.now c.cmp.result c.cmp.ensures
