-- Regions that stand by the first triangle of their side.
use Rattle.std.specs.Prelude.{◌≡◌, ℕ, ◌<◌, ◌==◌, ℤ, List, [], ◌∷◌, ◌++◌, Bool, true, false, filter, get_or, length, map}
use Rattle.std.specs.List.{All, Contains}
use Rattle.chain_terms.specs.Paths.{round_edges}
use Rattle.chain_terms.specs.Sums.{upto}
use Rattle.plane_filling.specs.declared.needless.Ways.{Ways}
use Rattle.plane_filling.specs.declared.regions.Region.{Region as StoredRegion}
use Rattle.plane_filling.specs.declared.regions.Regions.{Regions}
use Rattle.plane_filling.specs.Pieces.{Piece, all_pieces, alone_pieces, first_keys, no_region, region_pieces, turns_at}
use Rattle.plane_filling.specs.Regions.{walks_at}
use Rattle.plane_filling.specs.Ways.{is_passed}
use Rattle.plane_groups.specs.Grouped.{bent, face_at, is_front}
use Rattle.plane_sheets.specs.Found.{has_walks}
use Rattle.sheet_terms.specs.Faces.{Face}
use Rattle.sheet_terms.specs.Filled.{Filling, filled, fillings}
use Rattle.sheet_terms.specs.Needless.{is_needless}
use Rattle.sheet_terms.specs.Regions.{Region, all_sides}
use Rattle.plan_laws.specs.Alone.{IsAlone}
use Rattle.plan_laws.specs.Ordered.{SameFillings, is_first, side_at}
use Rattle.plan_laws.specs.Views.{IsSeenFrom}

-- a stored region with its walks as the definition has it
abbrev pub shown : List Face → StoredRegion → List (List ℕ) → Region
shown all r w = record { label = (face_at all r.label).label; walks = w }

-- a region of a side of the plane of s, of which triangle t is the first one; of sheets, or a kept triangle
pub record IsOf (points : List (List ℤ)) (all : List Face) (s : Face) (front : Bool) (t : ℕ) (keeps : Bool) (r : StoredRegion) : Type 0 where
  pub first : r.first ≡ t
  pub stays : r.kept ≡ keeps
  pub label : r.label < length all
  pub view : IsSeenFrom points s front r.view

-- the numbers of the regions by a triangle
abbrev pub numbers_at : Regions → ℕ → List ℕ
numbers_at r t = filter (λ k. (get_or r.all.items k no_region).first == t) (upto (length r.all.items))

-- region k is one of the side that triangle t faces
abbrev pub StandsAt : List (List ℤ) → List Face → ℕ → Regions → Bool → ℕ → Type 0
StandsAt points all t r keeps k = IsOf points all (face_at all t) (is_front points (face_at all t)) t keeps (get_or r.all.items k no_region)

-- the regions by triangle t are those of the side that it faces: of sheets, then kept triangles
pub record AreAt (points : List (List ℤ)) (all : List Face) (t : ℕ) (r : Regions) : Type 0 where
  pub sheets : List ℕ
  pub stay : List ℕ
  pub numbers : numbers_at r t ≡ sheets ++ stay
  pub sheets_are : All (StandsAt points all t r false) sheets
  pub stay_are : All (StandsAt points all t r true) stay
  pub shows : map (λ k. shown all (get_or r.all.items k no_region) (walks_at r k)) (sheets ++ stay) ≡ filter has_walks (side_at points all t).regions

-- a piece as a filling of the definition
abbrev pub told : List Face → Piece → Filling
told all p = record { label = (face_at all p.label).label; triples = p.triples; forced = p.forced }

-- what is noted tells which places are needless
abbrev pub TellsNeedless : List (List ℤ) → List (ℕ × ℕ) → Ways → Type 0
TellsNeedless points es w = ◌≡◌ {A = ℕ → Bool} (is_passed points w) (is_needless points es)

-- then these regions are filled as the side is
abbrev pub RegionsFillSide : Type 0
RegionsFillSide = (points : List (List ℤ)) (all : List Face) (es : List (ℕ × ℕ)) (r : Regions) (w : Ways) (t : ℕ) → TellsNeedless points es w → AreAt points all t r →
    SameFillings (map (told all) (region_pieces points r w (turns_at (first_keys r.all.items) t))) (map (filled points es (side_at points all t)) (side_at points all t).regions)

-- and a triangle that is alone is its side's filling
abbrev pub AloneFillsSide : Type 0
AloneFillsSide = (points : List (List ℤ)) (all : List Face) (es : List (ℕ × ℕ)) (t : ℕ) → IsAlone points (bent points all) (face_at all t) →
    All (Contains es) (round_edges (face_at all t).rim) →
    SameFillings (map (told all) (alone_pieces true t (face_at all t).corners)) (map (filled points es (side_at points all t)) (side_at points all t).regions)

-- what stands at triangle t: itself where it is alone, the regions of the side that it is the first of, or nothing
pub record StandsRight (points : List (List ℤ)) (all : List Face) (es : List (ℕ × ℕ)) (marks : List Bool) (r : Regions) (t : ℕ) : Type 0 where
  pub alone : is_first points all t ≡ true → get_or marks t false ≡ true → IsAlone points (bent points all) (face_at all t)
  pub edges : is_first points all t ≡ true → get_or marks t false ≡ true → All (Contains es) (round_edges (face_at all t).rim)
  pub only : get_or marks t false ≡ true → numbers_at r t ≡ []
  pub at : is_first points all t ≡ true → get_or marks t false ≡ false → AreAt points all t r
  pub none : is_first points all t ≡ false → (get_or marks t false ≡ false) × (numbers_at r t ≡ [])

-- where it stands right at each triangle, all pieces are what fills the sides
abbrev pub AllPiecesFill : Type 0
AllPiecesFill = (points : List (List ℤ)) (all : List Face) (es : List (ℕ × ℕ)) (marks : List Bool) (r : Regions) (w : Ways) → TellsNeedless points es w →
    ((t : ℕ) → t < length all → StandsRight points all es marks r t) →
    SameFillings (map (told all) (all_pieces points (map (λ f. f.corners) all) marks r w)) (fillings points es (all_sides points (bent points all)))
