-- Planes by their normals and levels.
use Rattle.std.specs.Prelude.{ℕ, zero, suc, ◌%◌, ℤ, pos, neg_ℤ, List, [], ◌∷◌, Bool, ◌&&◌, cond, int_div, unsigned_abs}
use Rattle.std.specs.Cmp.Lexicographic.{pointwise}
use Rattle.std.specs.Ordering.{int_eq}
use Rattle.face_plane.specs.Planes.{point_at}
use Rattle.mesh_terms.specs.Meshes.{Triple}
use Rattle.mesh_terms.specs.Points.{coordinate_of, cross_product}
use Rattle.sheet_terms.specs.Cuts.{scalar}
use Rattle.sheet_terms.specs.Twins.{is_up}
use Rattle.plane_groups.specs.declared.plane_key.PlaneKey.{PlaneKey}

-- the greatest common divisor of two numbers as Euclid finds it, within n steps
unfoldable pub divisor_within : ℕ → ℕ → ℕ → ℕ
divisor_within zero a b = a
divisor_within (suc n) a zero = a
divisor_within (suc n) a (suc b) = divisor_within n (suc b) (a % suc b)

-- that of two, and of three
abbrev pub divisor_of_two : ℕ → ℕ → ℕ
divisor_of_two a b = divisor_within b a b

abbrev pub divisor_of_three : ℕ → ℕ → ℕ → ℕ
divisor_of_three x y z = divisor_of_two z (divisor_of_two x y)

-- the greatest common divisor of the coordinates of a normal
abbrev pub common_of : List ℤ → ℕ
common_of n = divisor_of_three (unsigned_abs (coordinate_of n 0)) (unsigned_abs (coordinate_of n 1)) (unsigned_abs (coordinate_of n 2))

-- a coordinate without it, turned over where the normal isn't a front one
abbrev pub front_part : Bool → ℕ → ℤ → ℤ
front_part up g z = cond up (int_div z (pos g)) (neg_ℤ (int_div z (pos g)))

-- the front normal without a common divisor
abbrev pub front_normal : List ℤ → List ℤ
front_normal n =
    let part : ℕ → ℤ = λ i. front_part (is_up n) (common_of n) (coordinate_of n i) in part 0 ∷ part 1 ∷ part 2 ∷ []

-- the key of the plane of three points: that normal, and the scalar product of a point of the plane with it
abbrev pub key_of : List ℤ → List ℤ → List ℤ → PlaneKey
key_of a b c = let n = front_normal (cross_product a b c) in record { normal = n; level = scalar n a }

-- that of a triangle
abbrev pub key_at : List (List ℤ) → Triple → PlaneKey
key_at points t = key_of (point_at points t.0) (point_at points t.1) (point_at points t.2)

-- keys are equal
abbrev pub same_key : PlaneKey → PlaneKey → Bool
same_key k l = pointwise int_eq k.normal l.normal && int_eq k.level l.level
