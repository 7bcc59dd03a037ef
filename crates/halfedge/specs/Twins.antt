-- Closed triangles with the twins of their half-edges, and whether no two half-edges run the same way.
use Rattle.std.specs.Prelude.{◌↔◌, ℕ, List, Bool, IsTrue}
use Rattle.chain_terms.specs.Chains.{all_edges}
use Rattle.mesh_terms.specs.Meshes.{Triple}
use Rattle.mesh_terms.specs.Twins.{IsTwinned}
use Rattle.halfedge.specs.Laws.{AreSingle}

-- the list has the twins, and a mark says whether no two half-edges run the same way
pub record IsKept (ts : List Triple) (twins : List ℕ) (single : Bool) : Type 0 where
  pub twinned : IsTwinned ts twins
  pub single_exactly : IsTrue single ↔ AreSingle (all_edges ts)
