use Rattle.std.proofs.Common.{◌≡◌, filter, map}
use Rattle.chain_terms.specs.Sums.{upto}
use Rattle.mesh_terms.specs.Meshes.{triples_of}
use Rattle.sheet_terms.specs.Places.{has_three}
use Rattle.edge_cutting.specs.Overs.{over_at}
use Rattle.edge_cutting.proofs.places.faces_over.Given as goal

-- the triangles so far are over places
abbrev pub invariant-loop-number : goal.invariant-loop-number
invariant-loop-number l = record {
  sources : l.faces.sources.items ≡ filter (λ t. has_three (over_at l.of (triples_of l.triples) t)) (upto l.number);
  triples : triples_of l.faces.triples.items ≡ map (over_at l.of (triples_of l.triples)) l.faces.sources.items;
}
