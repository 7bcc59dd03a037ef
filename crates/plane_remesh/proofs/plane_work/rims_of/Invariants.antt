use Rattle.std.proofs.Common.{[], ◌≡◌, get_or, map, take}
use Rattle.mesh_terms.specs.Meshes.{triple_of}
use Rattle.edge_cutting.specs.Cut.{cut_rim}
use Rattle.plane_remesh.proofs.plane_work.rims_of.Given as goal

-- the rims so far
abbrev pub invariant-loop-number : goal.invariant-loop-number
invariant-loop-number l =
    l.rims ≡ (map (λ t. cut_rim l.surface.cuts (triple_of (get_or l.surface.over.triples.items t []))) (take l.number-index l.numbers), [])
