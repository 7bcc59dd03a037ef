-- What fills the sides of all planes, triangle by triangle: each side stands at its first triangle.
use Rattle.std.specs.Prelude.{◌≡◌, ℕ, ◌<◌, ℤ, List, [], Bool, true, false, not, ◌&&◌, filter, length, map, sum_by}
use Rattle.std.specs.List.{flat_map, list_any}
use Rattle.chain_terms.specs.Sums.{upto}
use Rattle.plane_groups.specs.Grouped.{bent, face_at}
use Rattle.sheet_terms.specs.Faces.{Face, faces_as, is_flat}
use Rattle.sheet_terms.specs.Filled.{Filling, filled, fillings}
use Rattle.sheet_terms.specs.Regions.{Region, Side, all_sides, side_of}
use Rattle.sheet_terms.specs.Remesh.{new_labels, new_triples}

-- triangle t is not flat, and no one before it that isn't lies in its plane and faces its side
abbrev pub is_first : List (List ℤ) → List Face → ℕ → Bool
is_first points all t =
    not (is_flat points (face_at all t).corners)
    && not (list_any (λ u. not (is_flat points (face_at all u).corners) && faces_as points (face_at all t) (face_at all u)) (upto t))

-- the same triangles, with the same labels, as many of them forced
pub record SameFillings (gs hs : List Filling) : Type 0 where
  pub triples : new_triples gs ≡ new_triples hs
  pub labels : new_labels gs ≡ new_labels hs
  pub forced : sum_by (λ g. g.forced) gs ≡ sum_by (λ h. h.forced) hs

-- the side that triangle t faces
abbrev pub side_at : List (List ℤ) → List Face → ℕ → Side
side_at points all t = side_of points (bent points all) (face_at all t)

-- what is put at each triangle: the filling of the side that it is the first of, but for regions without walks
pub record FillsSide (points : List (List ℤ)) (all : List Face) (es : List (ℕ × ℕ)) (t : ℕ) (gs : List Filling) : Type 0 where
  pub first : is_first points all t ≡ true → SameFillings gs (map (filled points es (side_at points all t)) (side_at points all t).regions)
  pub later : is_first points all t ≡ false → gs ≡ []

-- that is what fills all sides
abbrev pub FilledByFirsts : Type 0
FilledByFirsts = (points : List (List ℤ)) (all : List Face) (es : List (ℕ × ℕ)) (put : ℕ → List Filling) →
    ((t : ℕ) → t < length all → FillsSide points all es t (put t)) →
    SameFillings (flat_map put (upto (length all))) (fillings points es (all_sides points (bent points all)))

-- regions without walks fill nothing
abbrev pub WalklessFillNothing : Type 0
WalklessFillNothing = (points : List (List ℤ)) (es : List (ℕ × ℕ)) (s : Side) (p : Region → Bool) → ((r : Region) → p r ≡ false → r.walks ≡ []) → (rs : List Region) →
    SameFillings (map (filled points es s) (filter p rs)) (map (filled points es s) rs)
