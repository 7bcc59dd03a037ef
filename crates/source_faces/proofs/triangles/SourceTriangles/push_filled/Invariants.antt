use Rattle.std.proofs.Common.{take}
use Rattle.mesh_terms.specs.Meshes.{triples_of}
use Rattle.source_faces.specs.Adding.{IsAdded}
use Rattle.source_faces.proofs.triangles.SourceTriangles.push_filled.Given as goal

-- the triangles so far are added, and all that are forced are counted
abbrev pub invariant-loop-triple : goal.invariant-loop-triple
invariant-loop-triple l =
    IsAdded l.source (record { triples = triples_of (take l.triple-index l.triple-items); forced = l.filled.forced }) l.fn.self l.self
