-- What twins and going around keep.
use Rattle.std.specs.Prelude.{◌≡◌, ◌≢◌, ℕ, ◌<◌, ◌≤◌, ◌/◌, List, length}
use Rattle.chain_terms.specs.Chains.{dir}
use Rattle.chain_terms.specs.Permutations.{AreInverse}
use Rattle.chain_terms.specs.Ranks.{start, finish, twin, RunsBack}
use Rattle.mesh_terms.specs.Halves.{prev_half, around}

-- the twin runs back, in another triangle; its twin is the half-edge; twins of half-edges that run the same way stand in their order
pub record PairUp (es : List (ℕ × ℕ)) : Type 0 where
  pub run_back : (h : ℕ) → h < length es → RunsBack es h (twin es h)
  pub pairs : (h : ℕ) → h < length es → twin es (twin es h) ≡ h
  pub apart : (h : ℕ) → h < length es → twin es h ≢ h
  pub other : (h : ℕ) → h < length es → twin es h / 3 ≢ h / 3
  pub order : (h g : ℕ) → h < g → g < length es → start es h ≡ start es g → finish es h ≡ finish es g → twin es h < twin es g

-- going around keeps the start and moves on; the way back is the twin of the one before
pub record GoAround (es : List (ℕ × ℕ)) : Type 0 where
  pub inverse : AreInverse (around es) (λ h. twin es (prev_half h)) (length es)
  pub start_stays : (h : ℕ) → h < length es → start es (around es h) ≡ start es h
  pub moves : (h : ℕ) → h < length es → around es h ≢ h

-- no two edges run the same way
abbrev pub AreSingle : List (ℕ × ℕ) → Type 0
AreSingle es = (a b : ℕ) → dir es a b ≤ 1
