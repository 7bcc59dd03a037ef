use Rattle.std.proofs.Common.{◌≡◌, ◌++◌, take, map}
use Rattle.mesh_terms.specs.Meshes.{triples_of}
use Rattle.made_terms.specs.Lattice.{further}
use Rattle.mesh_make.proofs.lattice.push_box.Given as goal

abbrev pub invariant-loop-triple : goal.invariant-loop-triple
invariant-loop-triple l = triples_of l.triples.items ≡ triples_of l.fn.triples.items ++ map (further l.base) (triples_of (take l.triple-index l.triple-items))
