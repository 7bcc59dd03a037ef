use Rattle.std.proofs.Common.{◌≡◌, map, take}
use Rattle.mesh_terms.specs.Meshes.{triples_of}
use Rattle.pinch_split.specs.Back.{named_by}
use Rattle.mesh_boolean.proofs.auditing.origins.named_triples.Given as goal

abbrev pub invariant-loop-a : goal.invariant-loop-a
invariant-loop-a l = triples_of l.named.items ≡ map (named_by l.from) (triples_of (take l.a-index l.triples))
