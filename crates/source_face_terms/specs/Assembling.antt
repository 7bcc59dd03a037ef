-- What the fillings of source faces stand on, and what they are.
use Rattle.std.specs.Prelude.{ℕ, ◌*◌, ◌≤◌, List, length}
use Rattle.std.specs.List.{All}
use Rattle.chain_terms.specs.Chains.{all_edges}
use Rattle.chain_terms.specs.Cycles.{cycles}
use Rattle.chain_terms.specs.Odd.{SameChain}
use Rattle.mesh_check.specs.Reduced.{NoOpposite}
use Rattle.mesh_terms.specs.Meshes.{HasThree, IsBelow}
use Rattle.side_terms.specs.Sides.{IsSide, Side}
use Rattle.side_terms.specs.Lists.{Copy}
use Rattle.side_terms.specs.Standing.{IsBalanced, StandInLists, count_all_starts}
use Rattle.face_loops.specs.Segments.{IsOneToOne}
use Rattle.hole_joining.specs.Laws.{AreFillable}
use Rattle.ring_cutting.specs.Cuts.{Cut}
use Rattle.source_face_terms.specs.Naming.{AreNamed}
use Rattle.source_face_terms.specs.Filled.{face_segments}

-- two sides without opposite triangles; copies that stand in their lists as prescribed ones do, and whose starts are at most
-- 60,000,000
pub record CanBeAssembled (p q : Side) (cs : List Copy) : Type 0 where
  pub p_side : IsSide p
  pub q_side : IsSide q
  pub p_apart : NoOpposite p.triples
  pub q_apart : NoOpposite q.triples
  pub two_lists : StandInLists p q cs
  pub balance : IsBalanced p q cs
  pub named : AreNamed p q cs
  pub few : count_all_starts p q cs ≤ 60000000

-- the segments of a source face form loops that can be filled
pub record FormLoops (p q : Side) (cs : List Copy) (x : ℕ) : Type 0 where
  pub once : IsOneToOne (face_segments p q cs x)
  pub fillable : AreFillable (cycles (face_segments p q cs x)) (length cs)

-- triangles of copies, none with a copy twice, that have every sum over the segments of a source face and are at most five
-- for three of these
pub record FillFace (p q : Side) (cs : List Copy) (x : ℕ) (c : Cut) : Type 0 where
  pub chain : SameChain (all_edges c.triples) (face_segments p q cs x)
  pub three : All HasThree c.triples
  pub below : All (IsBelow (length cs)) c.triples
  pub few : 3 * length c.triples ≤ 5 * length (face_segments p q cs x)
  pub forced : c.forced ≤ length c.triples
