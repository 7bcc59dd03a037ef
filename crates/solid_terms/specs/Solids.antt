-- How often a closed mesh winds round a place: the tetrahedra from an apex to its faces in which the place lies, each by its sign.
use Rattle.std.specs.Prelude.{◌≡◌, ℕ, ℤ, pos, negsuc, ◌+ℤ◌, ◌-ℤ◌, ◌*ℤ◌, ◌≤ℤ◌, ◌<ℤ◌, Bool, ◌&&◌, int_lt, List, if◌then◌else◌}
use Rattle.std.specs.List.{All}
use Rattle.chain_terms.specs.Sums.{total}
use Rattle.mesh_terms.specs.Meshes.{Triple}
use Rattle.plane_laws.specs.Decisions.{Vector, way, scalar, face_normal}
use Rattle.plane_laws.specs.Signs.{Signed, Weak}

-- six times the volume of the tetrahedron of p and the triangle u, v, t: above 0 where the triangle turns left, seen from the side that p is not on
abbrev pub volume : Vector → Vector → Vector → Vector → ℤ
volume p u v t = scalar (face_normal u v t) (way p u)

-- 1 where four numbers are above 0, -1 where they are below 0, else 0
abbrev pub one_sign : ℤ → ℤ → ℤ → ℤ → ℤ
one_sign v0 v1 v2 v3 =
    if int_lt (pos 0) v0 && int_lt (pos 0) v1 && int_lt (pos 0) v2 && int_lt (pos 0) v3 then pos 1
    else (if int_lt v0 (pos 0) && int_lt v1 (pos 0) && int_lt v2 (pos 0) && int_lt v3 (pos 0) then negsuc 0 else pos 0)

-- 1 where p lies strictly inside the tetrahedron of o and the triangle u, v, t, and that is positive; -1 where it is negative; else 0:
-- the volumes with p in place of each corner have one sign
abbrev pub inside : Vector → Vector → Vector → Vector → Vector → ℤ
inside p o u v t = one_sign (volume p u v t) (volume p o t v) (volume p o u t) (volume p o v u)

-- how often faces, whose corners are named by numbers, wind round p: the tetrahedra of an apex o and a face, those that are positive less those that are negative
abbrev pub solid_winding : Vector → Vector → (ℕ → Vector) → List Triple → ℤ
solid_winding p o at ts = total (λ t. inside p o (at t.0) (at t.1) (at t.2)) ts

-- four numbers of one sign
pub record HaveSign (s : Bool) (v0 v1 v2 v3 : ℤ) : Type 0 where
  pub first : Signed s v0
  pub second : Signed s v1
  pub third : Signed s v2
  pub fourth : Signed s v3

-- p is not on the surface of the tetrahedron: if that is not flat and p lies in it, then p lies strictly inside
pub record IsClear (p o u v t : Vector) : Type 0 where
  pub strict : (s : Bool) → Signed s (volume o u v t) → Weak s (volume p u v t) → Weak s (volume p o t v) → Weak s (volume p o u t) → Weak s (volume p o v u) →
      HaveSign s (volume p u v t) (volume p o t v) (volume p o u t) (volume p o v u)

-- p is clear of the apex o: it is on the surface of no tetrahedron of o and a face
abbrev pub IsClearOfAll : Vector → Vector → (ℕ → Vector) → List Triple → Type 0
IsClearOfAll p o at ts = All (λ t. IsClear p o (at t.0) (at t.1) (at t.2)) ts

-- p lies in the closed triangle u, v, t: it is a mean of the three corners with whole weights that are not negative
pub record IsInTriangle (p u v t : Vector) : Type 0 where
  pub a : ℤ
  pub b : ℤ
  pub c : ℤ
  pub first : pos 0 ≤ℤ a
  pub second : pos 0 ≤ℤ b
  pub third : pos 0 ≤ℤ c
  pub some : pos 0 <ℤ (a +ℤ b +ℤ c)
  pub x : a *ℤ (p.x -ℤ u.x) +ℤ b *ℤ (p.x -ℤ v.x) +ℤ c *ℤ (p.x -ℤ t.x) ≡ pos 0
  pub y : a *ℤ (p.y -ℤ u.y) +ℤ b *ℤ (p.y -ℤ v.y) +ℤ c *ℤ (p.y -ℤ t.y) ≡ pos 0
  pub z : a *ℤ (p.z -ℤ u.z) +ℤ b *ℤ (p.z -ℤ v.z) +ℤ c *ℤ (p.z -ℤ t.z) ≡ pos 0

-- p lies in no closed face
abbrev pub IsOffFaces : Vector → (ℕ → Vector) → List Triple → Type 0
IsOffFaces p at ts = All (λ t. IsInTriangle p (at t.0) (at t.1) (at t.2) → ⊥) ts
