use Rattle.std.proofs.Common.{◌≡◌, true, sym, ◌∙◌}
use Rattle.ring_cutting.specs.Left.{lives}
use Rattle.ring_cutting.proofs.Orders.{put_keeps, put_known}
use Rattle.ring_cutting.proofs.doubts.wake_one.Goals as goal

pub returns-clause-woken : goal.returns-clause-woken
returns-clause-woken c = λ l. c.in_ok-put.ensures.has

pub returns-clause-kept : goal.returns-clause-kept
returns-clause-kept c = put_keeps c.args.doubtful.now c.put.new.doubtful c.args.i c.in_ok-put.ensures.has c.in_ok-put.ensures.others

pub returns-clause-known : goal.returns-clause-known
returns-clause-known c =
    put_known (λ q. lives c.args.living.now q ≡ true) c.args.doubtful.now c.put.new.doubtful c.args.i c.in_ok-put.ensures.others
    (sym c.is_living.ensures ∙ c.if-not-is_living.false)
