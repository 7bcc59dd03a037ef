use Rattle.std.proofs.Common.{◌≡◌, ◌<◌, ◌*◌, ◌/◌, ◌%◌, ℕ, List, [], length, get_or, ap, arith}
use Rattle.chain_terms.specs.Chains.{edges, all_edges}
use Rattle.chain_terms.specs.Ranks.{finish}
use Rattle.mesh_terms.specs.Meshes.{triple_of, triples_of}
use Rattle.halfedge.proofs.Starts.{triangle_edge}
use Rattle.spanning_forest.proofs.walk.end_of.Goals as goal

-- the end of the one of a triangle's three half-edges at a place
triangle_end : (ts : List (List ℕ)) (h r : ℕ) → h < 3 * length ts → h % 3 ≡ r → finish (edges (triple_of (get_or ts (h / 3) []))) r ≡ finish (all_edges (triples_of ts)) h
triangle_end ts h r below is = ap (λ (e : ℕ × ℕ). e.1) (triangle_edge ts h r below is)

pub returns-in-0 : goal.returns-in-0
returns-in-0 c = triangle_end c.args.triples.now c.args.half 0 c.requires c.in-0.is

pub returns-in-1 : goal.returns-in-1
returns-in-1 c = triangle_end c.args.triples.now c.args.half 1 c.requires c.in-1.is

pub returns-in_default : goal.returns-in_default
returns-in_default c = triangle_end c.args.triples.now c.args.half 2 c.requires (omega (arith, c.in_default))
