use Rattle.std.proofs.Common.{◌≡◌, ℕ, ◌+◌, ◌-◌, List, length, refl, sym, ap, ◌∙◌, arith}
use Rattle.loop_ring.proofs.Reading.{turned_less}
use Rattle.hole_joining.specs.Holes.{turned_to}
use Rattle.hole_joining.proofs.Turning.{length-turned, turned_all}
use Rattle.hole_joining.proofs.circle.turn_back.Goals as goal

pub loop-init : goal.loop-init
loop-init c =
    let ring : List ℕ = c.args.circle.now in let all : length ring - 0 ≡ length ring = omega arith in
    sym (ap (λ i. turned_to i ring) all ∙ turned_all ring)

pub loop-preserved : goal.loop-preserved
loop-preserved c =
    let ring : List ℕ =
    c.args.circle.now in let n : ℕ = length ring in let k : ℕ = n - (c.loop.counter + 1) in let less = c.loop-test.true in
    let count = c.len.ensures.count in
    let place : n - c.loop.counter ≡ k + 1 = omega arith in
    let stood : c.loop.circle ≡ turned_to (k + 1) ring = c.loop.invariant ∙ ap (λ i. turned_to i ring) place in
    c.back.ensures ∙ ap (λ l. turned_to (length l - 1) l) stood
    ∙ ap (λ j. turned_to (j - 1) (turned_to (k + 1) ring)) (length-turned (k + 1) ring) ∙ turned_less n k ring refl (omega arith)
