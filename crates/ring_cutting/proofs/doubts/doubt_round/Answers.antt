use Rattle.std.proofs.Common.{ℕ, ◌≡◌, true, ◌∙◌}
use Rattle.std.specs.Ordering.{nat_cmp}
use Rattle.std.specs.BTreeSet.{contains}
use Rattle.ring_cutting.specs.Left.{lives}
use Rattle.ring_cutting.proofs.Orders.{put_keeps, put_known, drop_known}
use Rattle.ring_cutting.proofs.doubts.doubt_round.Goals.{In_ok-put-2}
use Rattle.ring_cutting.proofs.doubts.doubt_round.Goals as goal

-- what is in doubt once what waited is stays so
keeps : (c : In_ok-put-2) (q : ℕ) → contains nat_cmp c.wake.new.doubtful q ≡ true → contains nat_cmp c.put-2.new.doubtful q ≡ true
keeps c q y =
    put_keeps c.put.new.doubtful c.put-2.new.doubtful c.args.n c.in_ok-put-2.ensures.has c.in_ok-put-2.ensures.others q
    (put_keeps c.wake.new.doubtful c.put.new.doubtful c.args.p c.in_ok-put.ensures.has c.in_ok-put.ensures.others q y)

pub returns-clause-kept : goal.returns-clause-kept
returns-clause-kept c = λ q apart y. keeps c q (c.in_ok-wake.ensures.kept q (c.drop_doubt.ensures.others q apart ∙ y))

pub returns-clause-woken : goal.returns-clause-woken
returns-clause-woken c = λ q w l. keeps c q (c.in_ok-wake.ensures.woken q w l)

pub returns-clause-before : goal.returns-clause-before
returns-clause-before c =
    put_keeps c.put.new.doubtful c.put-2.new.doubtful c.args.n c.in_ok-put-2.ensures.has c.in_ok-put-2.ensures.others c.args.p c.in_ok-put.ensures.has

pub returns-clause-known : goal.returns-clause-known
returns-clause-known c = λ first last h.
    let P : ℕ → Type 0 = λ q. lives c.args.living.now q ≡ true in
    put_known P c.put.new.doubtful c.put-2.new.doubtful c.args.n c.in_ok-put-2.ensures.others last
    (put_known P c.wake.new.doubtful c.put.new.doubtful c.args.p c.in_ok-put.ensures.others first
    (c.in_ok-wake.ensures.known
    (drop_known P c.args.doubtful.now c.drop_doubt.new.doubtful c.args.i c.drop_doubt.ensures.gone c.drop_doubt.ensures.others h)))
