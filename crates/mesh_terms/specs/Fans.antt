-- Fans: the cycles of half-edges round a vertex, and their numbers.
use Rattle.std.specs.Prelude.{◌≡◌, ℕ, ◌<◌, ◌≤◌, List, length, get_or}
use Rattle.chain_terms.specs.Ranks.{start}
use Rattle.mesh_terms.specs.Halves.{around, around_times, SameFan}

-- each half-edge's fan, and each fan's least half-edge; fans go by their start, then by their least half-edge
pub record AreFans (es : List (ℕ × ℕ)) (of first : List ℕ) : Type 0 where
  pub one_each : length of ≡ length es
  pub steps : (h : ℕ) → h < length es → get_or of (around es h) 0 ≡ get_or of h 0
  pub numbered : (h : ℕ) → h < length es → get_or of h 0 < length first
  pub first_in : (k : ℕ) → k < length first → (get_or first k 0 < length es) × (get_or of (get_or first k 0) 0 ≡ k)
  pub reached : (h : ℕ) → h < length es → SameFan es (get_or first (get_or of h 0) 0) h
  pub returns : (k : ℕ) → k < length first → (n : ℕ) × (0 < n) × (around_times es n (get_or first k 0) ≡ get_or first k 0)
  pub least : (h : ℕ) → h < length es → get_or first (get_or of h 0) 0 ≤ h
  pub by_start : (j k : ℕ) → j < k → k < length first → start es (get_or first j 0) ≤ start es (get_or first k 0)
  pub by_half : (j k : ℕ) → j < k → k < length first → start es (get_or first j 0) ≡ start es (get_or first k 0) → get_or first j 0 < get_or first k 0
