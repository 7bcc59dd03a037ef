-- How far the fans are known after the first half-edges of the order.
use Rattle.std.specs.Prelude.{◌≡◌, ℕ, ◌<◌, ◌≤◌, ◌⊎◌, List, length, get_or}
use Rattle.chain_terms.specs.Ranks.{start}
use Rattle.mesh_terms.specs.Halves.{SameFan}
use Rattle.halfedge.specs.Numbering.{no_fan, ordered_at, AreKeptAround}

-- the fans of the first i half-edges of the order
pub record AreFansSoFar (es order : List (ℕ × ℕ)) (i : ℕ) (of first : List ℕ) : Type 0 where
  pub full : length of ≡ length es
  pub few : length first ≤ i
  pub kept_around : AreKeptAround es of
  pub each : (x : ℕ) → x < length es → (get_or of x 0 ≡ no_fan) ⊎ (get_or of x 0 < length first)
  pub first_in : (k : ℕ) → k < length first → (get_or first k 0 < length es) × (get_or of (get_or first k 0) 0 ≡ k)
  pub reached : (x : ℕ) → x < length es → get_or of x 0 < length first → SameFan es (get_or first (get_or of x 0) 0) x
  pub least : (x : ℕ) → x < length es → get_or of x 0 < length first → get_or first (get_or of x 0) 0 ≤ x
  pub by_start : (j k : ℕ) → j < k → k < length first → start es (get_or first j 0) ≤ start es (get_or first k 0)
  pub by_half : (j k : ℕ) → j < k → k < length first → start es (get_or first j 0) ≡ start es (get_or first k 0) → get_or first j 0 < get_or first k 0
  pub seen : (j : ℕ) → j < i → get_or of (ordered_at order j) 0 < length first
  pub earlier : (k : ℕ) → k < length first → (j : ℕ) × (j < i) × (ordered_at order j ≡ get_or first k 0)
