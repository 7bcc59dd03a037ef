-- What is known of the steps of a script without a fault.
use Rattle.std.specs.Prelude.{◌≤◌, ℤ, length, List, [], ◌∷◌, ◌++◌, IsTrue}
use Rattle.std.specs.List.{All}
use Rattle.mesh_terms.specs.Points.{IsOnGrid, coordinate_of}
use Rattle.play_terms.specs.Formats.{is_mesh_name}
use Rattle.made_terms.specs.Making.{IsSolid}
use Rattle.made_terms.specs.Motions.{IsMotion}
use Rattle.play_terms.specs.Operands.{is_name}
use Rattle.play_terms.specs.Steps.{Line, Step, Load, Save, Measure, Inspect, Combine, Make, Move, Tidy, Remesh, Polygon, Combine2, Extrude, Exact, files_in, is_given, names_in, taken}

-- from 3 to 64 places in the plane, on the grid
pub record IsRing (ring : List (List ℤ)) : Type 0 where
  pub some : 3 ≤ length ring
  pub few : length ring ≤ 64
  pub on_grid : All (λ p. IsOnGrid (coordinate_of p 0) × IsOnGrid (coordinate_of p 1)) ring

-- the places of an outline, and the heights of a solid of one, are on the grid
abbrev pub HasPlaces : Step → Type 0
HasPlaces (Load name file) = Unit {0}
HasPlaces (Save name file) = Unit {0}
HasPlaces (Measure name) = Unit {0}
HasPlaces (Inspect name) = Unit {0}
HasPlaces (Combine op name left right) = Unit {0}
HasPlaces (Make name solid) = Unit {0}
HasPlaces (Move name old motion) = Unit {0}
HasPlaces (Tidy name old) = Unit {0}
HasPlaces (Remesh name old) = Unit {0}
HasPlaces (Polygon name ring) = IsRing ring
HasPlaces (Combine2 op name left right) = Unit {0}
HasPlaces (Extrude name old low high) = IsOnGrid low × IsOnGrid high
HasPlaces Exact = Unit {0}

-- so it is in each of the lines
abbrev pub HavePlaces : List Line → Type 0
HavePlaces lines = All (λ l. HasPlaces l.1) lines

-- the numbers of a step are in their range
abbrev pub HasNumbers : Step → Type 0
HasNumbers (Load name file) = Unit {0}
HasNumbers (Save name file) = Unit {0}
HasNumbers (Measure name) = Unit {0}
HasNumbers (Inspect name) = Unit {0}
HasNumbers (Combine op name left right) = Unit {0}
HasNumbers (Make name solid) = IsSolid solid
HasNumbers (Move name old motion) = IsMotion motion
HasNumbers (Tidy name old) = Unit {0}
HasNumbers (Remesh name old) = Unit {0}
HasNumbers (Polygon name ring) = IsRing ring
HasNumbers (Combine2 op name left right) = Unit {0}
HasNumbers (Extrude name old low high) = IsOnGrid low × IsOnGrid high
HasNumbers Exact = Unit {0}

-- each name that the step takes has a mesh or an outline, as it takes it, after the lines before, each name is one,
-- each file has the suffix of a mesh file, and each number is in its range
pub record IsSound (before : List Line) (step : Step) : Type 0 where
  pub given : All (λ t. IsTrue (is_given t.0 t.1 before)) (taken step)
  pub names : All (λ w. IsTrue (is_name w)) (names_in step)
  pub files : All (λ w. IsTrue (is_mesh_name w)) (files_in step)
  pub numbers : HasNumbers step

-- the lines after those before are sound, each after all that stand before it
abbrev pub AreSound : List Line → List Line → Type 0
AreSound before [] = Unit {0}
AreSound before (l ∷ ls) = IsSound before l.1 × AreSound (before ++ l ∷ []) ls
