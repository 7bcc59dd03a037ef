use Rattle.std.proofs.Common.{◌≡◌, take, map}
use Rattle.mesh_terms.specs.Meshes.{triples_of}
use Rattle.made_terms.specs.Motions.{turned_over}
use Rattle.mesh_make.proofs.motions.rigid.turned_triples.Given as goal

abbrev pub invariant-loop-a : goal.invariant-loop-a
invariant-loop-a l = triples_of l.turned.items ≡ map turned_over (triples_of (take l.a-index l.triples))
