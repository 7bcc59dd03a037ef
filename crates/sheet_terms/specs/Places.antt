-- Places: the different points of a list. And what is first or in order in a list.
use Rattle.std.specs.Prelude.{ℕ, ℤ, List, [], ◌∷◌, ◌++◌, Bool, cond, not, ◌&&◌, ◌==◌, if◌then◌else◌}
use Rattle.std.specs.List.{list_any, position_or_len}
use Rattle.mesh_terms.specs.Meshes.{Triple}
use Rattle.tidy_terms.specs.PointTriples.{same_point}

-- no place stands twice
abbrev pub has_three : Triple → Bool
has_three t = not (t.0 == t.1) && not (t.1 == t.2) && not (t.2 == t.0)

-- the members that are like no member before them; what stood before the list is given
abbrev pub firsts_after : {X : Type 0} → (X → X → Bool) → List X → List X → List X
firsts_after like before [] = []
firsts_after like before (x ∷ xs) = cond (list_any (like x) before) [] (x ∷ []) ++ firsts_after like (before ++ x ∷ []) xs

abbrev pub firsts : {X : Type 0} → (X → X → Bool) → List X → List X
firsts like xs = firsts_after like [] xs

-- the points of the places: the different ones, in the order in which they come first
abbrev pub place_points : List (List ℤ) → List (List ℤ)
place_points points = firsts same_point points

-- the place at which a point lies
abbrev pub place_at : List (List ℤ) → List ℤ → ℕ
place_at points p = position_or_len (same_point p) points

-- a member put in front of the first that comes after it
abbrev pub put : {X : Type 0} → (X → X → Bool) → X → List X → List X
put before x [] = x ∷ []
put before x (y ∷ ys) = if before x y then x ∷ y ∷ ys else y ∷ put before x ys

-- the members in order, where `before` tells any two apart
abbrev pub ordered : {X : Type 0} → (X → X → Bool) → List X → List X
ordered before [] = []
ordered before (x ∷ xs) = put before x (ordered before xs)
