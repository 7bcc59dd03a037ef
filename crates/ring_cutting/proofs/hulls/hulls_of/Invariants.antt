use Rattle.std.proofs.Common.{◌≡◌, ℕ, ◌+◌, ◌<◌, length}
use Rattle.ring_cutting.specs.Left.{place_of}
use Rattle.ring_cutting.specs.Spans.{IsIn, span_of, node_of, AreNested}
use Rattle.ring_cutting.proofs.hulls.hulls_of.Given as goal

-- the places so far have their rectangles
abbrev pub invariant-loop-i : goal.invariant-loop-i
invariant-loop-i l = record {
  many : length l.spans.items ≡ length l.places + length l.places;
  nested : AreNested l.spans.items;
  places : (j : ℕ) → j < l.i → IsIn (span_of l.spans.items (node_of l.nodes.items j)) (place_of l.places j).at;
}
