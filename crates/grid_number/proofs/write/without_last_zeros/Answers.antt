use Rattle.std.proofs.Common.{◌∙◌, arith, sym}
use Rattle.grid_number.proofs.KeptDigits.{shorter, kept_digits-is, kept_digits-all}
use Rattle.grid_number.proofs.write.without_last_zeros.Goals as goal

pub loop-left-preserved : goal.loop-left-preserved
loop-left-preserved c =
    let inv = c.loop-left.invariant in
    let next = shorter c.loop-left.places c.loop-left.left inv.some inv.below c.loop-left-test.true in
    record { some = next.some; below = next.below; fewer = omega (arith, inv.fewer); same = next.same ∙ inv.same }

pub returns-clause-same : goal.returns-clause-same
returns-clause-same c =
    let inv = c.loop-left.invariant in
    sym (kept_digits-all c.loop-left.places c.loop-left.left inv.some inv.below c.loop-left-test.false) ∙ inv.same
    ∙ kept_digits-is c.args.digits c.args.rest
