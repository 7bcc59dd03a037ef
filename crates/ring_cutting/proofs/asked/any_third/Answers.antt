use Rattle.std.proofs.Common.{◌≡◌, true, false, sym, ◌∙◌, arith}
use Rattle.std.specs.Prelude.{set}
use borrow.Author.Count.{below_more}
use Rattle.ring_cutting.specs.Left.{lives, place_of, third_place}
use Rattle.ring_cutting.proofs.Lefts.{none_any, lives_within, lives_less}
use Rattle.ring_cutting.proofs.Thirdly.{third_some, third_none}
use Rattle.ring_cutting.proofs.asked.any_third.Goals as goal

pub loop-j-preserved : goal.loop-j-preserved
loop-j-preserved c =
    let bs = c.args.living.now in
    let ps = c.args.places.now in
    below_more (λ k. lives (set bs c.args.i false) k ≡ true → third_place c.args.p c.args.n (place_of ps k) ≡ false) c.loop-j.j c.loop-j.invariant
    (third_none ps bs c.args.i c.args.p c.args.n c.loop-j.j (sym c.is_third.ensures ∙ c.if-is_third.false))

pub returns-then-is_third : goal.returns-then-is_third
returns-then-is_third c =
    sym (third_some c.args.places.now c.args.living.now c.args.i c.args.p c.args.n c.loop-j.j c.requires
    (sym c.is_third.ensures ∙ c.if-is_third.true))

pub returns : goal.returns
returns c =
    let bs = c.args.living.now in
    let ps = c.args.places.now in
    sym (none_any (third_place c.args.p c.args.n) (set bs c.args.i false) ps
    (λ w l. c.loop-j.invariant w (omega (arith, lives_within bs w (lives_less bs c.args.i w l), c.requires, c.loop-j-test.false)) l))
