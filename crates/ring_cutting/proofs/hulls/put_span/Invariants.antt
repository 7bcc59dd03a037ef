use Rattle.std.proofs.Common.{◌≡◌, ◌≢◌, ℕ, ◌*◌, ◌≤◌, length}
use Rattle.ring_cutting.specs.Spans.{span_of}
use Rattle.ring_cutting.proofs.Trees.{AreNestedBut}
use Rattle.ring_cutting.proofs.hulls.put_span.Given as goal

-- only the rectangle of this node may go beyond the one above
abbrev pub invariant-loop-k : goal.invariant-loop-k
invariant-loop-k l = record {
  many : length l.spans ≡ length l.fn.spans;
  up : l.k ≤ l.node;
  nested : AreNestedBut l.k l.spans;
  here : span_of l.spans l.node ≡ l.fn.span;
  others : (j : ℕ) → length l.fn.spans ≤ 2 * j → j ≢ l.node → span_of l.spans j ≡ span_of l.fn.spans j;
}

abbrev pub decreases-loop-k : goal.decreases-loop-k
decreases-loop-k l = l.k
