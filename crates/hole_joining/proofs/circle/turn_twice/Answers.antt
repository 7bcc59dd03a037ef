use Rattle.std.proofs.Common.{◌+◌, ◌≤◌, ◌⊎◌, ◌≡◌, ℕ, List, subst, ◌∙◌}
use Rattle.hole_joining.proofs.Turning.{turned_together}
use Rattle.hole_joining.proofs.circle.turn_twice.Goals as goal

pub returns : goal.returns
returns c =
    let xs : List ℕ = c.args.circle.now in
    let first : ℕ = c.args.first in
    let second : ℕ = c.args.second in
    let count : ℕ = c.steps_together-count.result in
    let sum = subst (λ n. (count ≡ first + second) ⊎ (count + n ≡ first + second)) c.len.ensures.count c.steps_together-count.ensures.sum in
    let within = subst (λ n. count ≤ n) c.len.ensures.count c.steps_together-count.ensures.within in
    c.turn.ensures ∙ turned_together first second count xs c.requires.first c.requires.second within sum
