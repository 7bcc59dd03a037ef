-- The conditions under which an edge is collapsed, as they are used in proofs.
use Rattle.std.specs.Prelude.{◌≡◌, ◌≢◌, ◌⊎◌, ◌+◌, ◌*◌, ◌/◌, ◌%◌, ◌<◌, ℕ, List, length}
use Rattle.std.specs.List.{All}
use Rattle.chain_terms.specs.Chains.{all_edges, dir, IsClosed}
use Rattle.chain_terms.specs.Ranks.{rank, start, finish, twin}
use Rattle.mesh_check.specs.Opposites.{third_vertex}
use Rattle.mesh_terms.specs.Meshes.{Triple, HasThree}
use Rattle.tidy_terms.specs.Collapse.{stays}

-- an edge from a to b that can be collapsed, with the third vertices c and d of its two triangles: it is the only one, the
-- edges from both to c and d are too, and no other vertex is joined to both
pub record CanCollapse (ts : List Triple) (h a b c d : ℕ) : Type 0 where
  pub three : All HasThree ts
  pub closed : IsClosed (all_edges ts)
  pub below : h < length (all_edges ts)
  pub starts : start (all_edges ts) h ≡ a
  pub ends : finish (all_edges ts) h ≡ b
  pub third : third_vertex ts h ≡ c
  pub across : third_vertex ts (twin (all_edges ts) h) ≡ d
  pub distinct : a ≢ b
  pub differ : c ≢ d
  pub ab : dir (all_edges ts) a b ≡ 1
  pub ac : dir (all_edges ts) a c ≡ 1
  pub ad : dir (all_edges ts) a d ≡ 1
  pub bc : dir (all_edges ts) b c ≡ 1
  pub bd : dir (all_edges ts) b d ≡ 1
  pub only : (v : ℕ) → 0 < dir (all_edges ts) a v → 0 < dir (all_edges ts) b v → (v ≡ c) ⊎ (v ≡ d)

-- the number that a half-edge of a triangle that stays has among those that are left
abbrev pub number_after : ℕ → ℕ → List Triple → ℕ → ℕ
number_after a b ts h = 3 * rank (stays a b) ts (h / 3) + h % 3
