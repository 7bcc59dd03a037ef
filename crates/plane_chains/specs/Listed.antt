-- The triangles of a plane as they are listed: their rims, the numbers of their labels, and whether each turns left.
use Rattle.std.specs.Prelude.{◌≡◌, ℕ, ◌<◌, List, [], Bool, false, not, ◌==◌, cond, bytes_eq, get_or, length, map}
use Rattle.std.specs.List.{position_or_len}
use Rattle.face_plane.specs.Planes.{Plane}
use Rattle.sheet_terms.specs.Faces.{Face, is_left, labels_of}
use Rattle.sheet_terms.specs.Places.{firsts}
use Rattle.plane_chains.specs.Ways.{marked}

-- no triangle
abbrev pub no_face : Face
no_face = record { number = 0; corners = (0, 0, 0); rim = []; label = [] }

-- a triangle by its place in a list
abbrev pub face_at : List Face → ℕ → Face
face_at fs i = get_or fs i no_face

-- those that have a mark
abbrev pub chosen : List Bool → List Face → List Face
chosen marks fs = map (face_at fs) (marked marks (length fs))

-- the number of a triangle's label: its place among the labels of all
abbrev pub label_number : List Face → Face → ℕ
label_number fs f = position_or_len (bytes_eq f.label) (labels_of fs)

-- the numbers of the labels of some triangles
abbrev pub picked : List ℕ → List ℕ → List ℕ
picked labels numbers = map (λ t. get_or labels t 0) numbers

-- for each of some numbers its place among the first ones
abbrev pub first_places : List ℕ → List ℕ
first_places ns = map (λ n. position_or_len (λ k. n == k) (firsts (λ j k. j == k) ns)) ns

-- of marks of all triangles those of some, by their numbers
abbrev pub marks_of : List Bool → List ℕ → List Bool
marks_of marks numbers = map (λ t. get_or marks t false) numbers

-- a triangle faces a side, where marks tell of each whether it faces the front
abbrev pub faces_side : List Bool → Bool → ℕ → Bool
faces_side marks front t = cond front (get_or marks t false) (not (get_or marks t false))

-- what is listed of triangles, in the order of their numbers
pub record AreListed (at : Plane) (own : List (List ℕ)) (numbers : List ℕ) (sides : List Bool) (fs : List Face) : Type 0 where
  pub rims : own ≡ map (λ f. f.rim) fs
  pub labels : numbers ≡ map (label_number fs) fs
  pub fronts : sides ≡ map (λ f. is_left at f.corners) fs
  pub order : (i j : ℕ) → i < j → j < length fs → (face_at fs i).number < (face_at fs j).number
