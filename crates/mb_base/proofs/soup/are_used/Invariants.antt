use Rattle.std.proofs.Common.{◌≡◌, ◌<◌, ℕ, true}
use Rattle.std.specs.List.{list_any}
use Rattle.mesh_terms.specs.Meshes.{has, triple_of}
use Rattle.mb_base.proofs.soup.are_used.Given as goal

abbrev pub invariant-loop-point : goal.invariant-loop-point
invariant-loop-point l = (v : ℕ) → v < l.point → list_any (λ t. has (triple_of t) v) l.triples ≡ true
