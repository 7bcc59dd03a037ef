use Rattle.std.proofs.Common.{ℕ, ◌<◌, List, length, ap, arith}
use Rattle.std.proofs.lemmas.List.{length-map, length-drop}
use Rattle.loop_ring.specs.Located.{Located}
use Rattle.loop_ring.proofs.Rounds.{circle_cut}
use Rattle.loop_ring.proofs.ring.Ring.cut.Goals as goal

pub invariant_of-self : goal.invariant_of-self
invariant_of-self c =
    let ring = c.self.inside in let n : ℕ = ring.len in let ns : List Located = ring.nodes.list in let count = c.self.invariant.1 in let asked = c.requires in
    let seen = ap length c.self.view_is in let values = length-map ns (λ x. x.1.value) in let more : 1 < n = omega arith in let link = c.link.ensures in
    let gone = ap length c.remove.ensures in let left = length-drop 1 c.link.new.self.list in let same = link.count in (
      circle_cut ring.first _ _ ns c.link.new.self.list _ n count more c.self.invariant.0 c.next-next.ensures c.prev-before.ensures link.addresses link.nexts
          link.prevs c.remove.ensures,
      omega arith,
    )
