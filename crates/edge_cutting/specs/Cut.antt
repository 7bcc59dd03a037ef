-- Cut edges with the places inside them, and rims.
use Rattle.std.specs.Prelude.{◌≡◌, ℕ, ◌∷◌, ◌++◌, ℤ, List, [], nat_eq, nat_lt, if◌then◌else◌, get_or, reverse}
use Rattle.std.specs.Cmp.Lexicographic.{pointwise}
use Rattle.std.specs.List.{All, position_or_len}
use Rattle.mesh_terms.specs.Meshes.{Triple}
use Rattle.sheet_terms.specs.Cuts.{rim}

-- edges, each from its lesser place to its greater one, and the places inside each, from the one to the other
pub record CutEdges : Type 0 where
  pub edges : List (List ℕ)
  pub places : List (List ℕ)

-- the places inside the edge that runs up from a to b; none where it isn't cut
abbrev pub places_between : CutEdges → ℕ → ℕ → List ℕ
places_between c a b = get_or c.places (position_or_len (pointwise nat_eq (a ∷ b ∷ [])) c.edges) []

-- those inside the edge between two places, from the first to the second
abbrev pub places_from : CutEdges → ℕ → ℕ → List ℕ
places_from c a b = if nat_lt a b then places_between c a b else reverse (places_between c b a)

-- the corners of a triangle with the places inside its edges
abbrev pub cut_rim : CutEdges → Triple → List ℕ
cut_rim c t = (t.0 ∷ places_from c t.0 t.1) ++ (t.1 ∷ places_from c t.1 t.2) ++ (t.2 ∷ places_from c t.2 t.0)

-- the rims of triangles are those that the places inside their edges give
abbrev pub HasRims : List (List ℤ) → List Triple → CutEdges → Type 0
HasRims points ts c = All (λ t. cut_rim c t ≡ rim points t) ts
