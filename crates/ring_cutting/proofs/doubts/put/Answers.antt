use Rattle.std.proofs.Common.{sym}
use Rattle.ring_cutting.proofs.Orders.{apart_cmp}
use Rattle.ring_cutting.proofs.doubts.put.Goals as goal

pub returns-in-Ok-clause-others : goal.returns-in-Ok-clause-others
returns-in-Ok-clause-others c = λ q apart. c.in-Ok.ensures.updates.2 q (apart_cmp c.args.i q (λ e. apart (sym e)))
