-- The labels of the triangles so far, and that of the faces to come.
use Rattle.std.specs.Prelude.{ℕ, ◌≤◌, ◌-◌, List, [], ◌∷◌, ◌++◌, Bool, if◌then◌else◌, replicate, length}
use Rattle.std.specs.List.{flat_map}
use Rattle.mesh_terms.specs.Labels.{with_blanks}
use Rattle.mesh_terms.specs.Meshes.{Triple}
use Rattle.unused_points.specs.Used.{IsSound}

-- labels of the first triangles, those after them being empty, and the present label
pub record Grouped : Type 0 where
  pub labels : List (List ℕ)
  pub label : List ℕ

abbrev pub no_groups : Grouped
no_groups = record { labels = []; label = [] }

-- labels with empty ones behind them, so many in all
abbrev pub padded : ℕ → List (List ℕ) → List (List ℕ)
padded count labels = labels ++ replicate (count - length labels) []

-- a word behind those before it, after a blank unless it is the first
abbrev pub put_behind : Bool → List ℕ → List ℕ
put_behind first word = if first then word else 32 ∷ word

-- words that are still to be joined to a label, a blank before each but the first of all
abbrev pub joined_on : Bool → List (List ℕ) → List ℕ
joined_on first words = if first then with_blanks words else flat_map (λ w. 32 ∷ w) words

-- the triangles so far are sound, and no more of them have labels than there are
pub record IsGathering (points : ℕ) (ts : List Triple) (labels : List (List ℕ)) : Type 0 where
  pub sound : IsSound points ts
  pub few : length labels ≤ length ts
