use Rattle.std.proofs.Common.{ap, arith, length, subst, sym, ◌+◌, ◌<◌, ◌∙◌}
use Rattle.plane_chains.specs.Tellings.{has_key}
use Rattle.plane_chains.proofs.MarkLists.{IsUnmarked, unmarked_all, unmarked_no, unmarked_none, unmarked_yes}
use Rattle.plane_chains.proofs.telling.unmark.Goals as goal
use Rattle.plane_chains.proofs.telling.unmark.Goals.{else-has_key, then-has_key}

pub loop-i-init : goal.loop-i-init
loop-i-init c = unmarked_none c.args.rims.now.0 c.args.edges.now.keys c.args.marks.now

pub loop-i-preserved : goal.loop-i-preserved
loop-i-preserved c =
    let rims = c.args.rims.now.0 in
    let keys = c.args.edges.now.keys in
    let i = c.loop-i.i in
    let low : i < length c.args.marks.now = omega (arith, c.loop-i-test.true, c.loop-i.invariant.long) in
    let says = sym (ap (has_key keys) c.list.ensures) ∙ sym c.has_key.ensures in
    elim c.if-has_key.branch [
      | then-has_key w ↦
          subst (λ ms. IsUnmarked rims keys c.args.marks.now ms (i + 1)) (sym w.marks-is)
          (unmarked_yes rims keys c.args.marks.now c.loop-i.marks i low (says ∙ w.if-has_key.true) c.loop-i.invariant)
      | else-has_key w ↦
          subst (λ ms. IsUnmarked rims keys c.args.marks.now ms (i + 1)) (sym w.marks-is)
          (unmarked_no rims keys c.args.marks.now c.loop-i.marks i (says ∙ w.if-has_key.false) c.loop-i.invariant)
    ]

pub returns : goal.returns
returns c =
    unmarked_all c.args.rims.now.0 c.args.edges.now.keys c.args.marks.now c.loop-i.marks c.loop-i.i c.requires
    (omega (arith, c.loop-i-test.false, c.loop-i.invariant.long)) c.loop-i.invariant
