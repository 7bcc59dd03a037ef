-- Clean chains: one fan at each vertex, and half-edges marked fan by fan.
use Rattle.std.specs.Prelude.{◌≡◌, ◌≢◌, ℕ, ◌<◌, List, Bool, true, false, length, get_or}
use Rattle.chain_terms.specs.Ranks.{start}
use Rattle.mesh_terms.specs.Halves.{SameFan}
use Rattle.halfedge.specs.Numbering.{no_fan, AreKeptAround}

-- the half-edges that start at one vertex are in one fan
abbrev pub IsClean : List (ℕ × ℕ) → Type 0
IsClean es = (h g : ℕ) → h < length es → g < length es → start es h ≡ start es g → SameFan es h g

-- the half-edge has a number
abbrev pub IsMarked : List ℕ → ℕ → Type 0
IsMarked of h = get_or of h 0 ≢ no_fan

-- whole fans are marked, at each vertex at most one, and the vertices of marked half-edges are seen
pub record AreMarked (es : List (ℕ × ℕ)) (of : List ℕ) (seen : List Bool) : Type 0 where
  pub full : length of ≡ length es
  pub kept_around : AreKeptAround es of
  pub known : (h : ℕ) → h < length es → IsMarked of h → get_or seen (start es h) false ≡ true
  pub joined : (h g : ℕ) → h < length es → g < length es → start es h ≡ start es g → IsMarked of h → IsMarked of g → SameFan es h g
  pub witness : (v : ℕ) → get_or seen v false ≡ true → (h : ℕ) × (h < length es) × (start es h ≡ v) × IsMarked of h
