use Rattle.std.proofs.Common.{◌≡◌, suc, ◌-◌, add-one, ◌∙◌, sym, ap, get_or, arith}
use Rattle.obj_text.proofs.NamedTwice.{has_repeat-next, has_repeat-climbs}
use Rattle.obj_text.proofs.repeats.has_repeat_of_ascending.Goals as goal

pub returns-then-vertices-place : goal.returns-then-vertices-place
returns-then-vertices-place c =
    let vertices = c.args.vertices.now in
    let place = c.loop-place.place in
    let next : suc (place - 1) ≡ place = omega arith in
    sym (has_repeat-next vertices (place - 1) (omega arith) (c.if-vertices-place.true ∙ ap (λ i. get_or vertices i 0) (sym next)))

pub returns : goal.returns
returns c = sym (has_repeat-climbs c.args.vertices.now (λ k inside. rw add-one at (c.loop-place.invariant k (omega arith))))
