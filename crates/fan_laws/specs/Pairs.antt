-- Twins that are given as a list: what is asked of them, and half-edges that may change them.
use Rattle.std.specs.Prelude.{◌≡◌, ◌≢◌, ℕ, ◌<◌, ◌%◌, List, length, get_or}
use Rattle.chain_terms.specs.Permutations.{times}
use Rattle.chain_terms.specs.Ranks.{finish, start}
use Rattle.sheet_terms.specs.Vertices.{around_by}

-- three a triangle, and each has a twin, whose twin it is
pub record AreTwins (twins : List ℕ) : Type 0 where
  pub below : (h : ℕ) → h < length twins → get_or twins h 0 < length twins
  pub back : (h : ℕ) → h < length twins → get_or twins (get_or twins h 0) 0 ≡ h
  pub whole : length twins % 3 ≡ 0

-- and it runs back from the end of the half-edge to its start
pub record ArePaired (es : List (ℕ × ℕ)) (twins : List ℕ) : Type 0 where
  pub full : length twins ≡ length es
  pub are : AreTwins twins
  pub from : (h : ℕ) → h < length es → start es (get_or twins h 0) ≡ finish es h
  pub to : (h : ℕ) → h < length es → finish es (get_or twins h 0) ≡ start es h

-- going around from h comes to g
abbrev pub Reaches : List ℕ → ℕ → ℕ → Type 0
Reaches twins h g = (n : ℕ) × (times (around_by twins) n h ≡ g)

-- two half-edges and their twins are four
pub record IsChange (twins : List ℕ) (g h : ℕ) : Type 0 where
  pub are : AreTwins twins
  pub g_below : g < length twins
  pub h_below : h < length twins
  pub apart : g ≢ h
  pub g_apart : get_or twins g 0 ≢ g
  pub h_apart : get_or twins h 0 ≢ h
  pub across : get_or twins g 0 ≢ h
