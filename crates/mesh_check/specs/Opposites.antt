-- Third vertices of half-edges.
use Rattle.std.specs.Prelude.{ℕ, List}
use Rattle.chain_terms.specs.Chains.{all_edges}
use Rattle.chain_terms.specs.Ranks.{start}
use Rattle.mesh_terms.specs.Halves.{next_half}
use Rattle.mesh_terms.specs.Meshes.{Triple}

-- the vertex of its triangle that a half-edge does not touch: where the one after the next starts
abbrev pub third_vertex : List Triple → ℕ → ℕ
third_vertex ts h = start (all_edges ts) (next_half (next_half h))
