use Rattle.std.proofs.Common.{◌≡◌, ◌∙◌, ap, arith, length}
use Rattle.plane_chains.specs.Ways.{marked}
use Rattle.plane_chains.proofs.KeptLists.{marked_no, marked_yes}
use Rattle.plane_chains.proofs.telling.count_of.Goals as goal
use Rattle.plane_chains.proofs.telling.count_of.Goals.{else-mark, then-mark}

pub loop-mark-preserved : goal.loop-mark-preserved
loop-mark-preserved c =
    let marks = c.args.marks.now in
    let i = c.loop-mark.mark-index in
    let count = c.loop-mark.count in
    elim c.if-mark.branch [
      | then-mark w ↦ (w.count-is ∙ marked_yes marks i count w.if-mark.true c.loop-mark.invariant.0, omega (arith, w.count-is, c.loop-mark.invariant.1))
      | else-mark w ↦ (w.count-is ∙ marked_no marks i count w.if-mark.false c.loop-mark.invariant.0, omega (arith, w.count-is, c.loop-mark.invariant.1))
    ]

pub returns : goal.returns
returns c =
    let marks = c.args.marks.now in
    let end : c.loop-mark.mark-index ≡ length marks = omega (arith, c.loop-mark-test.false, c.loop-mark.auto.mark-index-end) in
    c.loop-mark.invariant.0 ∙ ap (λ n. length (marked marks n)) end
