-- Hits: pairs of an edge of one side and a face of the other, each with a number of crossings and a point.
use Rattle.std.specs.Prelude.{◌≡◌, ◌≢◌, ℕ, ◌<◌, ◌⊎◌, ℤ, pos, negsuc, ◌≤ℤ◌, nat_lt, List, length, filter}
use Rattle.std.specs.List.{All, AllPairs}
use Rattle.chain_terms.specs.Sums.{upto}
use Rattle.chain_terms.specs.Ranks.{twin}
use Rattle.mb_base.specs.declared.results.Hit.{Hit}

-- of each edge the half-edge that comes before its twin
abbrev pub lower_halves : List (ℕ × ℕ) → List ℕ
lower_halves es = filter (λ h. nat_lt h (twin es h)) (upto (length es))

-- a number of crossings
pub record IsNumber (n : ℤ) : Type 0 where
  pub low : negsuc 1 ≤ℤ n
  pub high : n ≤ℤ pos 2

-- by edge, then by face
abbrev pub IsBefore : Hit → Hit → Type 0
IsBefore h k = (h.edge < k.edge) ⊎ ((h.edge ≡ k.edge) × (h.face < k.face))

-- hits of a chain's lower half-edges with so many faces, in order, no pair twice
pub record AreHits (es : List (ℕ × ℕ)) (faces : ℕ) (hits : List Hit) : Type 0 where
  pub on_edges : All (λ h. (h.edge < length es) × (h.edge < twin es h.edge)) hits
  pub on_faces : All (λ h. h.face < faces) hits
  pub numbers : All (λ h. IsNumber h.number) hits
  pub ascending : AllPairs IsBefore hits

-- each pair crosses
abbrev pub AllCross : List Hit → Type 0
AllCross hits = All (λ h. h.number ≢ pos 0) hits
