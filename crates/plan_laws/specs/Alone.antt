-- A triangle that is alone in its plane, without cuts, and what comes of it.
use Rattle.std.specs.Prelude.{◌≡◌, ◌&&◌, ℕ, ℤ, List, [], ◌∷◌, true, if◌then◌else◌, nat_lt, map}
use Rattle.std.specs.List.{All, Contains}
use Rattle.chain_terms.specs.Paths.{round_edges}
use Rattle.mesh_terms.specs.Meshes.{HasThree, Triple}
use Rattle.sheet_terms.specs.Crossings.{coplanar, crossings_in}
use Rattle.sheet_terms.specs.Faces.{Face, is_left, seen}
use Rattle.sheet_terms.specs.Filled.{Filling, filled}
use Rattle.sheet_terms.specs.Regions.{Region, Side, side_of}

-- no other triangle lies in its plane, no place inside one of its edges; it is not flat
pub record IsAlone (points : List (List ℤ)) (fs : List Face) (f : Face) : Type 0 where
  pub own : coplanar points fs f ≡ f ∷ []
  pub rim : f.rim ≡ f.corners.0 ∷ f.corners.1 ∷ f.corners.2 ∷ []
  pub three : HasThree f.corners
  pub left : is_left (seen points f) f.corners ≡ true

-- it is the only region of its side
abbrev pub alone_region : Face → Region
alone_region f = record { label = f.label; walks = f.rim ∷ [] }

abbrev pub alone_side : Face → Side
alone_side f = record { face = f; regions = alone_region f ∷ []; kept = 0 }

abbrev pub AloneIsItsRegion : Type 0
AloneIsItsRegion = (points : List (List ℤ)) (fs : List Face) (f : Face) → IsAlone points fs f → side_of points fs f ≡ alone_side f

-- no edges cross in its plane
abbrev pub AloneHasNoCrossings : Type 0
AloneHasNoCrossings = (points : List (List ℤ)) (fs : List Face) (f : Face) → IsAlone points fs f → crossings_in points fs f ≡ []

-- a triangle from its least corner
abbrev pub from_least : Triple → Triple
from_least t = if nat_lt t.0 t.1 && nat_lt t.0 t.2 then t else if nat_lt t.1 t.2 then (t.1, t.2, t.0) else (t.2, t.0, t.1)

-- the triangle by itself, from its least corner
abbrev pub alone_filling : Face → Filling
alone_filling f = record { label = f.label; triples = from_least f.corners ∷ []; forced = 0 }

-- it fills its region, where its edges are among those that tell which places are needless
abbrev pub AloneFillsItself : Type 0
AloneFillsItself = (points : List (List ℤ)) (fs : List Face) (f : Face) (es : List (ℕ × ℕ)) → IsAlone points fs f → All (Contains es) (round_edges f.rim) →
    filled points es (alone_side f) (alone_region f) ≡ alone_filling f
