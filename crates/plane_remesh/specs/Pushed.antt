-- Regions that are pushed behind others.
use Rattle.std.specs.Prelude.{◌≡◌, ℕ, ◌<◌, ◌^◌, ℤ, List, [], ◌∷◌, ◌++◌, Bool, true, false, filter, length, map, Option, None, Some}
use Rattle.std.specs.List.{All, find}
use Rattle.face_plane.specs.Planes.{Plane, face_plane}
use Rattle.plane_chains.specs.Listed.{faces_side}
use Rattle.plane_filling.specs.declared.regions.Region.{Region as StoredRegion}
use Rattle.plane_filling.specs.declared.regions.Regions.{Regions}
use Rattle.plane_filling.specs.Regions.{AreRegions, AreSeen, all_walks, waiting}
use Rattle.plane_groups.specs.Grouped.{bent, face_at, is_front}
use Rattle.plane_sheets.specs.Found.{has_walks}
use Rattle.sheet_terms.specs.Faces.{Face, drop_of, is_left, labels_of}
use Rattle.sheet_terms.specs.Kept.{free, kept}
use Rattle.sheet_terms.specs.Regions.{Region, kept_region, regions, side_of}
use Rattle.plan_laws.specs.Standing.{IsOf, shown}
use Rattle.plan_laws.specs.Views.{front_seen, side_turned}

-- no walk waits for its region
pub record AreWhole (r : Regions) : Type 0 where
  pub are : AreRegions r
  pub none : waiting r ≡ []
  pub made : r.walks.1 ≡ []
  pub few : length r.all.items < 2 ^ 32

-- regions with their walks were pushed
pub record HasPushed (old new : Regions) (rs : List StoredRegion) (ws : List (List (List ℕ))) : Type 0 where
  pub seen : AreSeen new (old.all.items ++ rs) (all_walks old ++ ws) [] []
  pub same : length rs ≡ length ws
  pub few : length new.all.items < 2 ^ 32

-- stored regions with their walks as the definition has them
abbrev pub all_shown : List Face → List StoredRegion → List (List (List ℕ)) → List Region
all_shown all [] ws = []
all_shown all (r ∷ rs) [] = []
all_shown all (r ∷ rs) (w ∷ ws) = shown all r w ∷ all_shown all rs ws

-- the places as that side sees them
abbrev pub side_seen : List (List ℤ) → Face → Bool → Plane
side_seen points s front = face_plane (drop_of points s) (side_turned points s front) points

-- regions, all of them of sheets or all of kept triangles, with their walks
pub record AreShown (points : List (List ℤ)) (all : List Face) (s : Face) (front : Bool) (t : ℕ)
    (keeps : Bool) (rs : List StoredRegion) (ws : List (List (List ℕ))) (gs : List Region) : Type 0 where
  pub each : All (IsOf points all s front t keeps) rs
  pub shows : all_shown all rs ws ≡ gs
  pub places : All (All (All (λ v. v < length points))) ws

-- the regions of sheets of a side, but for those without walks
abbrev pub sheet_regions : List (List ℤ) → List Face → Face → Bool → List Region
sheet_regions points own s front = filter has_walks (regions (side_seen points s front) (labels_of own) (free (front_seen points s) own))

-- and those of kept triangles that face it
abbrev pub kept_regions : List (List ℤ) → List Face → Face → Bool → List Region
kept_regions points own s front = map kept_region (filter (λ f. is_left (side_seen points s front) f.corners) (kept (front_seen points s) own))

-- regions of a side were pushed
pub record HasPushedSome (points : List (List ℤ)) (all : List Face) (s : Face) (front : Bool) (t : ℕ) (keeps : Bool) (old new : Regions) (gs : List Region) : Type 0 where
  pub rs : List StoredRegion
  pub ws : List (List (List ℕ))
  pub pushed : HasPushed old new rs ws
  pub shown : AreShown points all s front t keeps rs ws gs

-- regions of sheets, and then those of kept triangles, of the side that triangle t faces
pub record HasPushedSide (points : List (List ℤ)) (all : List Face) (t : ℕ) (old new : Regions) : Type 0 where
  pub sheets : List StoredRegion
  pub stay : List StoredRegion
  pub ws : List (List (List ℕ))
  pub pushed : HasPushed old new (sheets ++ stay) ws
  pub sheets_are : All (IsOf points all (face_at all t) (is_front points (face_at all t)) t false) sheets
  pub stay_are : All (IsOf points all (face_at all t) (is_front points (face_at all t)) t true) stay
  pub shows : all_shown all (sheets ++ stay) ws ≡ filter has_walks (side_of points (bent points all) (face_at all t)).regions
  pub places : All (All (All (λ v. v < length points))) ws

-- where there is such a triangle; else nothing
abbrev pub HasPushedFor : List (List ℤ) → List Face → Option ℕ → Regions → Regions → Type 0
HasPushedFor points all None old new = new ≡ old
HasPushedFor points all (Some t) old new = HasPushedSide points all t old new

-- the regions of a plane: those of its front, and then those of its back, of which these are the first triangles
pub record HasPushedPlane (points : List (List ℤ)) (all : List Face) (marks : List Bool) (numbers : List ℕ) (old new : Regions) : Type 0 where
  pub between : Regions
  pub front : HasPushedFor points all (find (faces_side marks true) numbers) old between
  pub back : HasPushedFor points all (find (faces_side marks false) numbers) between new
