use Rattle.std.proofs.Common.{sym}
use Rattle.ring_cutting.proofs.Orders.{apart_cmp}
use Rattle.ring_cutting.proofs.doubts.drop_doubt.Goals as goal

pub returns-clause-others : goal.returns-clause-others
returns-clause-others c = λ q apart. c.remove.ensures.updates.2 q (apart_cmp c.args.i q (λ e. apart (sym e)))
