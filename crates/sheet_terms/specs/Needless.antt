-- Places that all planes pass straight.
use Rattle.std.specs.Prelude.{ℕ, ℤ, List, [], ◌∷◌, ◌++◌, Bool, false, not, ◌&&◌, ◌==◌, cond, filter}
use Rattle.std.specs.List.{flat_map}
use Rattle.chain_terms.specs.Paths.{round_edges}
use Rattle.face_plane.specs.Planes.{point_at}
use Rattle.tidy_terms.specs.PointTriples.{same_point}
use Rattle.sheet_terms.specs.Cuts.{are_in_line}
use Rattle.sheet_terms.specs.Places.{firsts}
use Rattle.sheet_terms.specs.Regions.{Side}

-- the edges round walks
abbrev pub walk_edges : List (List ℕ) → List (ℕ × ℕ)
walk_edges ws = flat_map round_edges ws

-- those of the regions of a side
abbrev pub side_edges : Side → List (ℕ × ℕ)
side_edges s = flat_map (λ r. walk_edges r.walks) s.regions

-- the other end of an edge of v
abbrev pub other_end : ℕ → (ℕ × ℕ) → List ℕ
other_end v e = cond (e.0 == v) (e.1 ∷ []) [] ++ cond (e.1 == v) (e.0 ∷ []) []

-- the places to which edges lead from v or to v, each once
abbrev pub neighbours : List (ℕ × ℕ) → ℕ → List ℕ
neighbours es v = firsts (λ a b. a == b) (flat_map (other_end v) es)

-- there are two, both apart from v and on a line with it
abbrev pub are_two_in_line : List (List ℤ) → ℕ → List ℕ → Bool
are_two_in_line points v [] = false
are_two_in_line points v (a ∷ []) = false
are_two_in_line points v (a ∷ b ∷ []) =
    not (same_point (point_at points v) (point_at points a)) && not (same_point (point_at points v) (point_at points b))
    && are_in_line (point_at points v) (point_at points a) (point_at points b)
are_two_in_line points v (a ∷ b ∷ c ∷ ns) = false

-- the edges of all walks lead from v to two places only, on a line with it
abbrev pub is_needless : List (List ℤ) → List (ℕ × ℕ) → ℕ → Bool
is_needless points es v = are_two_in_line points v (neighbours es v)

-- a walk without such places
abbrev pub thinned : List (List ℤ) → List (ℕ × ℕ) → List ℕ → List ℕ
thinned points es walk = filter (λ v. not (is_needless points es v)) walk
