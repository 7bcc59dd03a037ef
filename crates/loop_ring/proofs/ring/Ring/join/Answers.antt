use Rattle.std.proofs.Common.{ℕ, ◌-◌, ◌+◌, List, length, set, ap, ◌∙◌, arith}
use Rattle.std.proofs.lemmas.List.{length-append, map-append}
use Rattle.loop_ring.specs.Located.{Located, addresses, nexts, prevs}
use Rattle.loop_ring.proofs.Rounds.{circle_spliced}
use Rattle.loop_ring.proofs.ring.Ring.join.Goals as goal

pub invariant_of-self : goal.invariant_of-self
invariant_of-self c =
    let here = c.self.inside in let there = c.other.inside in let n : ℕ = here.len in let m : ℕ = there.len in
    let ns : List Located = here.nodes.list in let ms : List Located = there.nodes.list in let count = c.self.invariant.1 in let others = c.other.invariant.1 in
    let one = c.link.ensures in let other = c.link-2.ensures in let both = c.absorb.ensures in
    let all = ap length both in let sum = length-append ns ms in let kept = one.count in let again = other.count in (
      circle_spliced here.first there.first _ _ ns ms _ n m count others c.self.invariant.0 c.other.invariant.0 c.prev-last.ensures c.prev-end.ensures
          (other.addresses ∙ one.addresses ∙ ap addresses both ∙ map-append (λ x. x.0) ns ms)
          (other.nexts ∙ ap (λ ls. set ls (n + m - 1) here.first) (one.nexts ∙ ap (λ ls. set ls (n - 1) there.first) (ap nexts both ∙ map-append (λ x. x.1.next) ns ms)))
          (other.prevs ∙ ap (λ ls. set ls 0 c.prev-end.result) (one.prevs ∙ ap (λ ls. set ls n c.prev-last.result) (ap prevs both ∙ map-append (λ x. x.1.prev) ns ms))),
      omega arith,
    )
