use Rattle.std.proofs.Common.{ℕ, ◌-◌, List, length, sym, ap, ◌∙◌}
use Rattle.std.proofs.lemmas.List.{length-map}
use Rattle.loop_ring.specs.Located.{Located, values}
use Rattle.loop_ring.specs.Turning.{turned_to}
use Rattle.loop_ring.proofs.Turning.{map-turned_to, length-turned_to}
use Rattle.loop_ring.proofs.Rounds.{circle_back}
use Rattle.loop_ring.proofs.ring.Ring.back.Goals as goal

pub invariant_of-self : goal.invariant_of-self
invariant_of-self c =
    let ring = c.self.inside in let n : ℕ = ring.len in let ns : List Located = ring.nodes.list in let count = c.self.invariant.1 in
    (circle_back ring.first _ ns _ n count c.self.invariant.0 c.prev-self-inside.ensures c.recount.ensures, count ∙ sym (ap length c.recount.ensures ∙ length-turned_to (n - 1) ns))

pub returns : goal.returns
returns c =
    let ring = c.self.inside in let n : ℕ = ring.len in let ns : List Located = ring.nodes.list in
    let count = c.self.invariant.1 ∙ sym (length-map ns (λ x. x.1.value)) ∙ ap length c.self.view_is in
    ap values c.recount.ensures ∙ map-turned_to (λ x. x.1.value) (n - 1) ns ∙ ap (turned_to (n - 1)) c.self.view_is ∙ ap (λ k. turned_to (k - 1) c.args.self.now) count
