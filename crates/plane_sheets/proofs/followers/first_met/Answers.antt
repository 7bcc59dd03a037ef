use Rattle.std.proofs.Common.{◌<◌, cond, get_or, length, ap, sym, ◌∙◌, arith}
use Rattle.plane_sheets.specs.Seen.{seen_in}
use Rattle.plane_sheets.proofs.Following.{met_more, met_same, no_leaving}
use Rattle.plane_sheets.proofs.followers.first_met.Goals as goal
use Rattle.plane_sheets.proofs.followers.first_met.Goals.{then-is_met_before, else-is_met_before}

pub loop-each-preserved : goal.loop-each-preserved
loop-each-preserved c =
    let at = seen_in c.args.flat in
    let ls = c.args.leaving.now in
    let i = c.loop-each.each-index in
    let m = (get_or ls i no_leaving).to in
    let within : i < length ls = omega (arith, c.loop-each-test.true) in
    let test = met_same at c.args.s c.args.p m c.loop-each.first _ _ _ _ c.is_met_before.result c.is_met_before.ensures
    c.at.ensures c.at-in-loop-each.ensures c.at-in-loop-each-2.ensures c.at-in-loop-each-3.ensures in
    let more = met_more at c.args.s c.args.p c.args.n ls i c.loop-each.first c.is_met_before.result within c.loop-each.invariant.value test in
    elim c.if-is_met_before.branch [
      | then-is_met_before w ↦ record {
        value = w.first-is ∙ sym (ap (λ b. cond b m c.loop-each.first) w.if-is_met_before.true) ∙ more;
        below = λ some. let is = w.first-is in omega (arith, is, c.requires.ends i no_leaving within);
      }
      | else-is_met_before w ↦ record {
        value = w.first-is ∙ sym (ap (λ b. cond b m c.loop-each.first) w.if-is_met_before.false) ∙ more;
        below = λ some. let is = w.first-is in omega (arith, is, c.loop-each.invariant.below some);
      }
    ]
