-- Places and normals as vectors.
use Rattle.std.specs.Prelude.{◌≡◌}
use Rattle.plane_laws.specs.Decisions.{Vector, face_normal}
use Rattle.self_cuts.specs.declared.normal.Normal.{Normal}
use Rattle.self_cuts.specs.declared.place.Place.{Place}

-- a place as a vector
abbrev pub place : Place → Vector
place p = record { x = p.x; y = p.y; z = p.z }

-- a normal as a vector
abbrev pub normal : Normal → Vector
normal n = record { x = n.x; y = n.y; z = n.z }

-- n is the normal of three places
abbrev pub IsNormalOf : Normal → Place → Place → Place → Type 0
IsNormalOf n a b c = normal n ≡ face_normal (place a) (place b) (place c)
