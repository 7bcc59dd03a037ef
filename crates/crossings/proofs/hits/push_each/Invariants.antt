use Rattle.std.proofs.Common.{◌≡◌}
use Rattle.crossings.specs.Hits.{hits_before}
use Rattle.crossings.proofs.hits.push_each.Given as goal

abbrev pub invariant-loop-half : goal.invariant-loop-half
invariant-loop-half g l = l.hits.items ≡ hits_before (g.C.EdgeFace.crossing_of l.pairs) l.edges l.faces l.half
