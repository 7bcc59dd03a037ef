use Rattle.std.proofs.Common.{◌<◌, ℕ, [], get_or}
use Rattle.mesh_terms.specs.Meshes.{HasThree, triple_of}
use Rattle.mesh_boolean.proofs.auditing.origins.have_three.Given as goal

abbrev pub invariant-loop-triple : goal.invariant-loop-triple
invariant-loop-triple l = (k : ℕ) → k < l.triple-index → HasThree (triple_of (get_or l.triples k []))
