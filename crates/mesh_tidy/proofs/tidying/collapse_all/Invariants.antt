use Rattle.std.proofs.Common.{◌≡◌, ◌+◌, ◌*◌, false, length}
use Rattle.std.specs.List.{All}
use Rattle.mesh_tidy.specs.Doubts.{AreDoubted, AreHalves}
use Rattle.mesh_tidy.specs.TidySurface.{IsSurface, left_of}
use Rattle.mesh_tidy.proofs.Done.{HasCome}
use Rattle.mesh_tidy.proofs.tidying.collapse_all.Given as goal

-- what is left is tidied as all is, with the collapses so far
abbrev pub invariant-loop-half : goal.invariant-loop-half
invariant-loop-half l = record {
  vertices : l.surface.vertices ≡ l.fn.surface.vertices;
  count : length l.surface.triples ≡ length l.fn.surface.triples;
  surface : IsSurface l.surface;
  doubts : AreDoubted l.points l.surface l.doubts.keys;
  halves : AreHalves l.surface.triples l.doubts.keys;
  marks : length l.met.items ≡ l.surface.vertices;
  unmarked : All (λ mark. mark ≡ false) l.met.items;
  come : HasCome l.points l.fn.surface l.surface l.collapsed;
  few : 2 * l.collapsed + length (left_of l.surface) ≡ length (left_of l.fn.surface);
}

-- a collapse takes two triangles, and puts at most four half-edges in doubt
abbrev pub decreases-loop-half : goal.decreases-loop-half
decreases-loop-half l = 2 * length (left_of l.surface) + length l.doubts.keys
