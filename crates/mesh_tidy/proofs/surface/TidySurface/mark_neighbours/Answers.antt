use Rattle.std.proofs.Common.{◌+◌, subst, sym, ◌∙◌, arith}
use Rattle.mesh_tidy.proofs.Asking.{AreMarkedTo, all_marked, one_marked, passed_over}
use Rattle.mesh_tidy.proofs.surface.TidySurface.mark_neighbours.Goals as goal
use Rattle.mesh_tidy.proofs.surface.TidySurface.mark_neighbours.Goals.{then-has, else-has}

pub loop-half-preserved : goal.loop-half-preserved
loop-half-preserved c =
    let s = c.args.self.now in
    let star = c.star-half-items.result.now in
    let i = c.loop-half.half-index in
    let old = c.args.met.now in
    elim c.if-has.branch [
      | then-has w ↦
          subst (AreMarkedTo s star c.args.mark (i + 1) old) (sym w.met-is)
          (one_marked s star c.args.mark i old c.loop-half.met c.loop-half-test.true c.loop-half.invariant w.end.result (sym c.has.ensures ∙ w.if-has.true)
          (sym w.end.ensures.value) (omega (arith, w.end.ensures.below, c.requires.marks)))
      | else-has w ↦
          subst (AreMarkedTo s star c.args.mark (i + 1) old) (sym w.met-is)
          (passed_over s star c.args.mark i old c.loop-half.met c.loop-half-test.true c.loop-half.invariant (sym c.has.ensures ∙ w.if-has.false))
    ]

pub returns : goal.returns
returns c =
    all_marked c.args.self.now c.star-half-items.result.now c.args.vertex c.star-half-items.ensures.counts c.loop-half.half-index c.args.mark c.args.met.now
    c.loop-half.met c.loop-half-test.false c.loop-half.invariant
