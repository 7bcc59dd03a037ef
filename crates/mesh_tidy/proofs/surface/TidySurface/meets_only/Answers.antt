use Rattle.std.proofs.Common.{◌≡◌, false, get_or, refl, sym, subst, ◌∙◌}
use Rattle.std.specs.List.{All}
use Rattle.std.proofs.lemmas.Bool.{both_ways}
use Rattle.std.proofs.lemmas.List.{take_all}
use Rattle.std.proofs.lemmas.List.Elements.{All-more}
use Rattle.mesh_tidy.specs.Neighbours.{meets_another}
use Rattle.mesh_tidy.proofs.Meeting.{meets_more, meets_only}
use Rattle.mesh_tidy.proofs.surface.TidySurface.meets_only.Goals as goal

pub loop-half-preserved : goal.loop-half-preserved
loop-half-preserved c =
    All-more (λ h. meets_another c.args.self.now c.args.met.now (get_or c.args.thirds 0 0) (get_or c.args.thirds 1 0) h ≡ false) c.star-half-items.result.now
    c.loop-half.half-index 0 c.loop-half-test.true c.loop-half.invariant
    (sym c.meets_another.ensures ∙ c.if-meets_another.false)

pub returns-then-meets_another : goal.returns-then-meets_another
returns-then-meets_another c = (
  λ wrong. absurd (both_ways false refl wrong),
  λ only. absurd (meets_more c.args.self.now c.args.met.now (get_or c.args.thirds 0 0) (get_or c.args.thirds 1 0) c.star-half-items.result.now c.args.vertex
      c.star-half-items.ensures.counts c.loop-half.half-index c.loop-half-test.true (sym c.meets_another.ensures ∙ c.if-meets_another.true) only),
)

pub returns : goal.returns
returns c =
    let s = c.args.self.now in
    let star = c.star-half-items.result.now in
    let none = subst (All (λ h. meets_another s c.args.met.now (get_or c.args.thirds 0 0) (get_or c.args.thirds 1 0) h ≡ false))
    (take_all c.loop-half.half-index star c.loop-half-test.false) c.loop-half.invariant in
    (λ _. meets_only s c.args.met.now (get_or c.args.thirds 0 0) (get_or c.args.thirds 1 0) star c.args.vertex c.star-half-items.ensures.counts none, λ _. refl)
