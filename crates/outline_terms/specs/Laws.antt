-- The laws of an outline and of its extrusion, as statements.
use Rattle.std.specs.Prelude.{[], true, pos, get_or, ◌≢◌, ◌+◌, ◌*ℤ◌, ℤ, ◌≡◌, ℕ, ◌<◌, ◌≤◌, ◌-ℤ◌, List, length}
use Rattle.std.specs.List.{All, Contains, concat, flat_map}
use Rattle.std.specs.List.Sorted.{IsPermutation}
use Rattle.chain_terms.specs.Chains.{IsClosed, all_edges}
use Rattle.chain_terms.specs.Cycles.{into, out}
use Rattle.chain_terms.specs.Odd.{SameChain, along}
use Rattle.chain_terms.specs.Paths.{round_edges}
use Rattle.chain_terms.specs.Sums.{total, upto}
use Rattle.chain_laws.specs.Areas.{area_at}
use Rattle.mesh_terms.specs.Meshes.{HasThree, IsBelow, Triple, is_used}
use Rattle.mesh_terms.specs.Points.{coordinate_of}
use Rattle.mesh_terms.specs.Volume.{volume6_of}
use Rattle.face_loops.specs.Segments.{AreDifferent}
use Rattle.outline_terms.specs.Extrusion.{extruded_points, extruded_triples}

-- where all vertices of all loops differ and each loop has three or more, no edge has one that runs back
abbrev pub NoEdgeReturns : Type 0
NoEdgeReturns = (loops : List (List ℕ)) → AreDifferent (concat loops) → All (λ loop. 3 ≤ length loop) loops →
    (v w : ℕ) → Contains (flat_map round_edges loops) (v, w) → Contains (flat_map round_edges loops) (w, v) → ⊥

-- each vertex of an outline starts one edge and ends one
abbrev pub VerticesAreOnce : Type 0
VerticesAreOnce = (n : ℕ) (loops : List (List ℕ)) → IsPermutation (upto n) (concat loops) → (v : ℕ) →
    v < n → (out (flat_map round_edges loops) v ≡ 1) × (into (flat_map round_edges loops) v ≡ 1)

-- triangles with the boundary of loops, extruded, are closed
abbrev pub ExtrusionCloses : Type 0
ExtrusionCloses = (n : ℕ) (ts : List Triple) (loops : List (List ℕ)) → SameChain (all_edges ts) (flat_map round_edges loops) →
    IsClosed (all_edges (extruded_triples n ts (flat_map round_edges loops)))

-- and these enclose three times the height between times the doubled area
abbrev pub ExtrusionHasVolume : Type 0
ExtrusionHasVolume = (low high : ℤ) (points : List (List ℤ)) (ts : List Triple) (es : List (ℕ × ℕ)) →
    All (IsBelow (length points)) ts → All (λ e. (e.0 < length points) × (e.1 < length points)) es → SameChain (all_edges ts) es →
    volume6_of (extruded_points low high points) (extruded_triples (length points) ts es) ≡ pos 3 *ℤ
    ((high -ℤ low) *ℤ total (along (area_at (λ v. coordinate_of (get_or points v []) 0) (λ v. coordinate_of (get_or points v []) 1))) es)

-- where the triangles have three different vertices below n and the edges different ends, and each vertex starts an edge, so have
-- those of the extrusion, over 2 n points that are all used
pub record IsSolid (n : ℕ) (ts : List Triple) : Type 0 where
  pub three : All HasThree ts
  pub below : All (IsBelow n) ts
  pub used : (v : ℕ) → v < n → is_used ts v ≡ true

abbrev pub ExtrusionIsSolid : Type 0
ExtrusionIsSolid = (n : ℕ) (ts : List Triple) (es : List (ℕ × ℕ)) → All HasThree ts → All (IsBelow n) ts →
    All (λ e. (e.0 < n) × (e.1 < n) × (e.0 ≢ e.1)) es → ((v : ℕ) → v < n → 0 < out es v) → IsSolid (n + n) (extruded_triples n ts es)
