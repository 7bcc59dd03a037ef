use Rattle.std.proofs.Common.{◌<◌, ℕ, [], get_or}
use Rattle.mesh_terms.specs.Meshes.{HasThree, IsBelow, triple_of}
use Rattle.mb_base.proofs.soup.are_triples.Given as goal

abbrev pub invariant-loop-triple : goal.invariant-loop-triple
invariant-loop-triple l =
    (k : ℕ) → k < l.triple-index → HasThree (triple_of (get_or l.triples k [])) × IsBelow l.points (triple_of (get_or l.triples k []))
