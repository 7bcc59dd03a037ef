use Rattle.std.proofs.Common.{◌≡◌, ℕ, ◌<◌, length, get_or}
use Rattle.ring_cutting.specs.Spans.{HasNode}
use Rattle.ring_cutting.proofs.hulls.nodes_of.Given as goal

-- the places of the order so far have their nodes
abbrev pub invariant-loop-k : goal.invariant-loop-k
invariant-loop-k l = record {
  many : length l.nodes.items ≡ length l.order;
  each : (j : ℕ) → j < l.k → HasNode (length l.order) l.order l.nodes.items (get_or l.order j 0);
}
