-- The volume of a tetrahedron as it counts where its first corner is moved by a hair, and whether that corner is inside a tetrahedron then.
use Rattle.std.specs.Prelude.{ℤ}
use Rattle.plane_laws.specs.Decisions.{Vector, face_normal}
use Rattle.plane_laws.specs.Above.{opposite}
use Rattle.solid_terms.specs.Solids.{one_sign, volume}
use Rattle.space_laws.specs.Lexical.{height_or_lead}

-- the volume where p is moved by a hair in x, by a lesser one in y and by a still lesser one in z
abbrev pub moved_volume : Vector → Vector → Vector → Vector → ℤ
moved_volume p u v t = height_or_lead (opposite (face_normal u v t)) (volume p u v t)

-- whether p, moved by a hair, is inside the tetrahedron of o and the triangle u, v, t: 1 or -1 by its sign, else 0
abbrev pub moved_inside : Vector → Vector → Vector → Vector → Vector → ℤ
moved_inside p o u v t = one_sign (moved_volume p u v t) (moved_volume p o t v) (moved_volume p o u t) (moved_volume p o v u)
