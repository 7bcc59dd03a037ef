use Rattle.std.proofs.Common.{◌≡◌, ◌+◌, ◌-◌, ◌<◌, ℕ, List, [], ◌∷◌, ◌++◌, length, get_or, sym, ap, ◌∙◌, arith}
use Rattle.loop_ring.proofs.Reading.{read_turned, turned_more}
use Rattle.hole_joining.specs.Holes.{turned_to}
use Rattle.hole_joining.proofs.Circles.{circle_joined}
use Rattle.hole_joining.proofs.Turning.{length-turned}
use Rattle.hole_joining.proofs.circle.Circle.join.Goals as goal

pub returns : goal.returns
returns c =
    let ring : List ℕ =
    c.args.self.now in let hole : List ℕ = c.args.hole.now in let i : ℕ = c.args.place in let n : ℕ = c.len.result in let rest : ℕ = n - i - 1 in
    let s : ℕ = c.get-start.result in let e : ℕ = c.get-end.result in let within : i < length ring = c.requires.place in
    let stands : turned_to c.self.inside.ahead c.self.inside.nodes ≡ ring = c.self.view_is in
    let count : n ≡ length ring = c.len.ensures.count ∙ sym (length-turned c.self.inside.ahead c.self.inside.nodes) ∙ ap length stands in
    let at_place : c.turn_twice.new.circle ≡ turned_to i ring = c.turn_twice.ensures ∙ ap (turned_to i) stands in
    let stood : c.step.new.self ≡ turned_to (i + 1) ring = c.step.ensures ∙ ap (turned_to 1) at_place ∙ turned_more i ring within in
    let all : c.grow-2.new.self ≡ ((turned_to (i + 1) ring ++ hole) ++ s ∷ []) ++ e ∷ [] =
    c.in_ok-grow-2.ensures.ok
    ∙ ap (λ l. l ++ e ∷ []) (c.in_ok-grow.ensures.ok ∙ ap (λ l. l ++ s ∷ []) (c.splice.ensures ∙ (λ j. stood j ++ c.in_ok-own.ensures j))) in
    let start : s ≡ get_or hole 0 0 = c.get-start.ensures ∙ ap (λ l. get_or l 0 0) c.in_ok-own.ensures in
    let end : e ≡ get_or ring i 0 = c.get-end.ensures ∙ ap (λ l. get_or l 0 0) at_place ∙ read_turned i ring within in
    ap (turned_to rest) all
    ∙ circle_joined ring hole i n rest s e count (omega (arith, count, within)) c.requires.some (omega (arith, count, within)) start end
