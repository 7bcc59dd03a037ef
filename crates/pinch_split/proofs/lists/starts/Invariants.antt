use Rattle.std.proofs.Common.{◌≡◌, take}
use Rattle.mesh_terms.specs.Meshes.{triples_of}
use Rattle.pinch_split.specs.Given.{starts_of}
use Rattle.pinch_split.proofs.lists.starts.Given as goal

-- the vertices so far
abbrev pub invariant-loop-half : goal.invariant-loop-half
invariant-loop-half l = l.from.items ≡ starts_of (triples_of l.triples) (take l.half-index l.halves)
