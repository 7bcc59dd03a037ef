use Rattle.std.proofs.Common.{subst}
use Rattle.std.specs.List.Sorted.{IsPermutation}
use Rattle.face_loops.specs.Segments.{edges_of}
use Rattle.face_loops.proofs.Listing.{sorted_starts}
use Rattle.face_loops.proofs.starts.index_of.Goals as goal

pub returns : goal.returns
returns c = λ many.
    sorted_starts (edges_of c.args.segments.now) c.sort_unstable.new.self.items
    (subst (λ l. IsPermutation l c.sort_unstable.new.self.items) c.in_ok-index.ensures c.sort_unstable.ensures.permutation)
    c.sort_unstable.ensures.sorted
