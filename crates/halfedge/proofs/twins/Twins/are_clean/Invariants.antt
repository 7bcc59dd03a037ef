use Rattle.std.proofs.Common.{◌≡◌, ◌<◌, ℕ, length}
use Rattle.chain_terms.specs.Chains.{all_edges}
use Rattle.halfedge.specs.Clean.{IsMarked, AreMarked}
use Rattle.halfedge.proofs.twins.Twins.are_clean.Given as goal

-- the fans of the half-edges so far are marked
abbrev pub invariant-loop-half : goal.invariant-loop-half
invariant-loop-half l = record {
  marks : AreMarked (all_edges l.self.triples) l.of.items l.seen.items;
  room : length l.seen.items ≡ l.fn.points;
  done : (x : ℕ) → x < l.half → IsMarked l.of.items x;
}
