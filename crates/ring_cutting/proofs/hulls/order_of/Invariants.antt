use Rattle.std.proofs.Common.{◌≡◌, map, take}
use Rattle.ring_cutting.proofs.hulls.order_of.Given as goal

-- the places of the keys so far
abbrev pub invariant-loop-k : goal.invariant-loop-k
invariant-loop-k l = l.order.items ≡ take l.k (map (λ k. k.1) l.keys.items)
