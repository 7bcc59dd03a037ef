use Rattle.std.proofs.Common.{◌≡◌, ◌∙◌, ap, map, subst, sym}
use Rattle.std.specs.List.Sorted.{IsPermutation}
use Rattle.std.proofs.lemmas.List.Sorted.{IsPermutation-map}
use Rattle.std.proofs.lemmas.Result.{IfOk-weaker}
use Rattle.cross_section.specs.Order.{edge_in}
use Rattle.cross_section.proofs.numbers.order.nearby.Goals as goal

pub returns : goal.returns
returns c =
    let placed = c.in_ok-order.order.items in
    let sorted = c.sort_unstable.new.self.items in
    let moved = subst (λ es. IsPermutation es (map edge_in sorted)) c.in_ok-order.ensures (IsPermutation-map edge_in placed sorted c.sort_unstable.ensures.permutation) in
    IfOk-weaker c.edges_in.result (λ near. near.items ≡ map edge_in c.deref.result.now) (λ near. IsPermutation c.args.edges.now near.items)
    (λ near is. subst (IsPermutation c.args.edges.now) (sym (is ∙ ap (map edge_in) c.deref.ensures.value)) moved) c.edges_in.ensures
