use Rattle.std.proofs.Common.{◌≡◌, take, map}
use Rattle.std.specs.List.{All, filter}
use Rattle.mesh_terms.specs.Meshes.{triples_of}
use Rattle.halfedge.specs.Pairing.{turned}
use Rattle.halfedge.specs.Ways.{half_of, runs_up}
use Rattle.mesh_check.specs.Cancelling.{vertices_of, halves_of}
use Rattle.mesh_check.specs.Orientations.{orientation_edges, IsNarrow}
use Rattle.mesh_check.proofs.oriented_ways.split.Given as goal

abbrev pub invariant-loop-place : goal.invariant-loop-place
invariant-loop-place l = record {
  ones : halves_of l.ones.items ≡ filter runs_up (map (half_of (orientation_edges (triples_of l.triples))) (take l.place-index l.bucket));
  others : halves_of l.others.items ≡ filter runs_up (map (λ h. turned (half_of (orientation_edges (triples_of l.triples)) h)) (take l.place-index l.bucket));
  ones_narrow : All (λ o. IsNarrow (vertices_of o)) l.ones.items;
  others_narrow : All (λ o. IsNarrow (vertices_of o)) l.others.items;
}
