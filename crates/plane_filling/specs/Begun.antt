-- Places as the code sees them in a plane, and walks from their beginnings.
use Rattle.std.specs.Prelude.{ℕ, List, Bool, not, map, filter}
use Rattle.face_plane.specs.Planes.{Plane, face_plane}
use Rattle.plane_filling.specs.declared.flat.FlatPoints.{FlatPoints}
use Rattle.sheet_terms.specs.Filled.{begun, comes_before}
use Rattle.sheet_terms.specs.Places.{ordered}

-- the plane of these places
abbrev pub seen_in : FlatPoints → Plane
seen_in f = face_plane f.view.plane.drop f.view.turned f.points.now

-- a walk without places that pass a test
abbrev pub without : (ℕ → Bool) → List ℕ → List ℕ
without p walk = filter (λ v. not (p v)) walk

-- walks without such places, each from its beginning
abbrev pub begun_without : (ℕ → Bool) → Plane → List (List ℕ) → List (List ℕ)
begun_without p at walks = map (λ walk. begun at (without p walk)) walks

-- the same in order
abbrev pub loops_without : (ℕ → Bool) → Plane → List (List ℕ) → List (List ℕ)
loops_without p at walks = ordered comes_before (begun_without p at walks)
