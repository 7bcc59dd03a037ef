use Rattle.std.proofs.Common.{◌≡◌}
use Rattle.chain_terms.specs.Chains.{all_edges}
use Rattle.mesh_terms.specs.Meshes.{triples_of}
use Rattle.mesh_tidy.proofs.Starring.{stars_to}
use Rattle.mesh_tidy.proofs.stars.Stars.of.Given as goal

-- those of the half-edges so far
abbrev pub invariant-loop-half : goal.invariant-loop-half
invariant-loop-half l = l.stars ≡ stars_to l.vertices (all_edges (triples_of l.triples)) l.half
