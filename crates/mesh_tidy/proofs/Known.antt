-- What a surface keeps of each half-edge: its ends are vertices, and the stars count its edges.
use Rattle.std.proofs.Common.{◌*◌, ◌<◌, ℕ, List, length, arith}
use Rattle.chain_terms.specs.Chains.{all_edges}
use Rattle.chain_terms.specs.Ranks.{start, finish}
use Rattle.halfedge.proofs.Edges.{length-all_edges}
use Rattle.mesh_check.specs.Opposites.{third_vertex}
use Rattle.mesh_terms.specs.Halves.{next_half}
use Rattle.mesh_tidy.specs.TidySurface.{TidySurface, IsKept}
use Rattle.tidy_laws.proofs.Tidying.{finish_below, start_below}

module _ (s : TidySurface) (tw : List ℕ) (stars : List (List ℕ)) (kept : IsKept s tw stars) (h : ℕ) (low : h < 3 * length s.triples) where
  pub start_known : start (all_edges s.triples) h < s.vertices
  start_known = start_below s.vertices s.triples kept.below h (omega (arith, low, length-all_edges s.triples))

  pub finish_known : finish (all_edges s.triples) h < s.vertices
  finish_known = finish_below s.vertices s.triples kept.below h (omega (arith, low, length-all_edges s.triples))

  pub third_known : third_vertex s.triples h < s.vertices
  third_known = start_below s.vertices s.triples kept.below (next_half (next_half h)) (omega (arith, low, length-all_edges s.triples))
