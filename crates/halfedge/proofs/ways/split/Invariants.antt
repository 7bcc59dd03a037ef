use Rattle.std.proofs.Common.{◌≡◌, take, map}
use Rattle.std.specs.List.{filter}
use Rattle.chain_terms.specs.Chains.{all_edges}
use Rattle.mesh_terms.specs.Meshes.{triples_of}
use Rattle.halfedge.specs.Pairing.{turned}
use Rattle.halfedge.specs.Ways.{half_of, runs_up}
use Rattle.halfedge.proofs.ways.split.Given as goal

abbrev pub invariant-loop-half : goal.invariant-loop-half
invariant-loop-half l = record {
  ups : l.ups.items ≡ filter runs_up (map (half_of (all_edges (triples_of l.triples))) (take l.half-index l.bucket));
  downs : l.downs.items ≡ filter runs_up (map turned (map (half_of (all_edges (triples_of l.triples))) (take l.half-index l.bucket)));
}
