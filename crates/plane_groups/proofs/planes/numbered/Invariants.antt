use Rattle.std.proofs.Common.{◌≡◌, map, take}
use Rattle.mesh_terms.specs.Meshes.{triples_of}
use Rattle.plane_groups.specs.Numbers.{faces_front, keys_of, number_among}
use Rattle.plane_groups.proofs.planes.numbered.Given as goal

-- the triangles so far are numbered
abbrev pub invariant-loop-triple : goal.invariant-loop-triple
invariant-loop-triple l = record {
  keys : l.numbered.seen.keys ≡ keys_of l.points (triples_of (take l.triple-index l.triples));
  of : l.numbered.of.items ≡ map (number_among l.points (keys_of l.points (triples_of (take l.triple-index l.triples)))) (triples_of (take l.triple-index l.triples));
  fronts : l.numbered.fronts.items ≡ map (faces_front l.points) (triples_of (take l.triple-index l.triples));
}
