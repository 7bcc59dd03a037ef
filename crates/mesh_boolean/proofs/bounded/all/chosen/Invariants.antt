use Rattle.std.proofs.Common.{◌≡◌, take}
use Rattle.mesh_terms.specs.Meshes.{triples_of}
use Rattle.mesh_boolean.specs.BoundedFaces.{chosen}
use Rattle.mesh_boolean.proofs.bounded.all.chosen.Given as goal

abbrev pub invariant-loop-place : goal.invariant-loop-place
invariant-loop-place l = triples_of l.part.items ≡ chosen (triples_of l.triples) (take l.place-index l.places)
