-- How far points are apart, and the points of the grid on the segment between two.
use Rattle.std.specs.Prelude.{◌≡◌, ℕ, ◌+◌, ◌<◌, ◌≤◌, ◌^◌, ℤ, pos, ◌+ℤ◌, ◌-ℤ◌, ◌*ℤ◌, List, [], ◌∷◌, length, unsigned_abs}
use Rattle.std.specs.Int.{◌∣◌, int_max, int_min}
use Rattle.face_plane.specs.Planes.{point_at}
use Rattle.mb_base.specs.declared.point.Box3.{Box3}
use Rattle.mesh_terms.specs.Points.{coordinate_of}
use Rattle.edge_cutting.specs.Divisors.{IsCommonDivisor}
use Rattle.edge_cutting.specs.declared.steps.Steps.{Steps}

-- how far it is between two points on an axis
abbrev pub step_on : List ℤ → List ℤ → ℕ → ℕ
step_on p q i = unsigned_abs (coordinate_of q i -ℤ coordinate_of p i)

-- how far it is on all three together
abbrev pub span : List ℤ → List ℤ → ℕ
span p q = step_on p q 0 + step_on p q 1 + step_on p q 2

-- the greatest number of which the steps between two points on all three axes are multiples
abbrev pub IsCommonStep : List ℤ → List ℤ → ℕ → Type 0
IsCommonStep p q g = IsCommonDivisor (step_on p q 0) (step_on p q 1) (step_on p q 2) g

-- the steps between two points on all axes are multiples of a number
pub record AreMultiples (d : ℕ) (p q : List ℤ) : Type 0 where
  pub x : d ∣ step_on p q 0
  pub y : d ∣ step_on p q 1
  pub z : d ∣ step_on p q 2

-- so are all steps between some points
pub record AreInSteps (unit : ℕ) (points : List (List ℤ)) : Type 0 where
  pub each : (v w : ℕ) → v < length points → w < length points → AreMultiples unit (point_at points v) (point_at points w)

-- coordinate i of the point k steps behind the start
abbrev pub stepped : Steps → ℕ → ℕ → ℤ
stepped s k i = coordinate_of s.start i +ℤ pos k *ℤ coordinate_of s.step i

-- the point k steps behind the start
abbrev pub point_behind : Steps → ℕ → List ℤ
point_behind s k = stepped s k 0 ∷ stepped s k 1 ∷ stepped s k 2 ∷ []

-- the box of two points
abbrev pub box_round : List ℤ → List ℤ → Box3
box_round p q = record {
  low = int_min (coordinate_of p 0) (coordinate_of q 0) ∷ int_min (coordinate_of p 1) (coordinate_of q 1) ∷ int_min (coordinate_of p 2) (coordinate_of q 2) ∷ [];
  high = int_max (coordinate_of p 0) (coordinate_of q 0) ∷ int_max (coordinate_of p 1) (coordinate_of q 1) ∷ int_max (coordinate_of p 2) (coordinate_of q 2) ∷ [];
}

-- that of the points so many and so many steps behind the start
abbrev pub box_between : Steps → ℕ → ℕ → Box3
box_between s j k = box_round (point_behind s j) (point_behind s k)

-- the steps lead from one point to another, and no number of lesser ones does
pub record LeadsTo (p q : List ℤ) (s : Steps) : Type 0 where
  pub start_x : coordinate_of s.start 0 ≡ coordinate_of p 0
  pub start_y : coordinate_of s.start 1 ≡ coordinate_of p 1
  pub start_z : coordinate_of s.start 2 ≡ coordinate_of p 2
  pub end_x : coordinate_of q 0 -ℤ coordinate_of p 0 ≡ pos s.count *ℤ coordinate_of s.step 0
  pub end_y : coordinate_of q 1 -ℤ coordinate_of p 1 ≡ pos s.count *ℤ coordinate_of s.step 1
  pub end_z : coordinate_of q 2 -ℤ coordinate_of p 2 ≡ pos s.count *ℤ coordinate_of s.step 2
  pub least : IsCommonDivisor (unsigned_abs (coordinate_of s.step 0)) (unsigned_abs (coordinate_of s.step 1)) (unsigned_abs (coordinate_of s.step 2)) 1

-- so that nothing overflows
pub record IsShort (s : Steps) : Type 0 where
  pub count : s.count ≤ 2 ^ 31
  pub start_x : unsigned_abs (coordinate_of s.start 0) ≤ 2 ^ 30
  pub start_y : unsigned_abs (coordinate_of s.start 1) ≤ 2 ^ 30
  pub start_z : unsigned_abs (coordinate_of s.start 2) ≤ 2 ^ 30
  pub step_x : unsigned_abs (coordinate_of s.step 0) ≤ 2 ^ 31
  pub step_y : unsigned_abs (coordinate_of s.step 1) ≤ 2 ^ 31
  pub step_z : unsigned_abs (coordinate_of s.step 2) ≤ 2 ^ 31
