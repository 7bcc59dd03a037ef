use Rattle.std.proofs.Common.{◌≡◌, ◌<◌, ◌+◌, ◌∷◌, [], true, length, length-append, ap, arith}
use Rattle.std.specs.Ordering.{nat_cmp}
use Rattle.std.specs.BTreeSet.{contains}
use borrow.Author.Count.{below_more}
use Rattle.ring_cutting.proofs.Orders.{put_keeps, put_known}
use Rattle.ring_cutting.proofs.doubts.all_doubtful.Goals as goal

pub loop-i-preserved : goal.loop-i-preserved
loop-i-preserved c =
    let h = c.loop-i.invariant in
    let i = c.loop-i.i in
    let old = c.loop-i.doubtful in
    let new = c.put.new.doubtful in
    let has = c.in_ok-put.ensures.has in
    let others = c.in_ok-put.ensures.others in
    record {
      many = omega (arith, ap length c.in_ok-push.ensures.items, length-append c.loop-i.waiting.items (c.none.result ∷ []), h.many);
      all = below_more (λ k. contains nat_cmp new k ≡ true) i (λ k l. put_keeps old new i has others k (h.all k l)) has;
      only = put_known (λ q. q < i + 1) old new i others (omega arith) (λ q y. omega (arith, h.only q y));
    }
