use Rattle.std.proofs.Common.{◌≡◌, take, map}
use Rattle.mesh_terms.specs.Meshes.{triples_of}
use Rattle.mesh_check.specs.Cancelling.{bucket_of_triple}
use Rattle.mesh_check.proofs.oriented_ways.bucket_numbers.Given as goal

abbrev pub invariant-loop-triple : goal.invariant-loop-triple
invariant-loop-triple l = l.numbers.items ≡ map (bucket_of_triple l.count) (triples_of (take l.triple-index l.triples))
