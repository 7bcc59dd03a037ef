-- What the code keeps of the five boundary pairs of an edge and a face.
use Rattle.std.specs.Prelude.{◌≡◌, ℕ, ◌≤◌, ℤ, pos, ◌+ℤ◌, ◌-ℤ◌, unsigned_abs, slice_index_or, Bool, false, not, if◌then◌else◌, Option, None, IfSome, List, [], ◌∷◌, map, get_or}
use Rattle.std.specs.Ordering.{int_eq}
use Rattle.mb_base.specs.declared.point.Corner.{Corner}
use Rattle.side_terms.specs.Corners.{corner_at}
use Rattle.shadow_kernels.specs.declared.Spot.{Spot}
use Rattle.shadow_kernels.specs.declared.Meet.{Meet}
use Rattle.shadow_kernels.specs.Counts.{count_of}
use Rattle.shadow_kernels.specs.Sizes.{IsSized}
use Rattle.shadow_kernels.specs.Entries.{spot_of}
use Rattle.shadow_kernels.specs.ShadowLaws.{ShadowTest}
use Rattle.edge_face.specs.declared.pair.Pair.{Pair}
use Rattle.edge_face.specs.declared.pair.Pairs.{Pairs}
use Rattle.edge_face.specs.Crossings.{face_edges}

-- a number known to be the count of a sized answer
pub record IsKnown (m : Option Meet) (n : ℤ) : Type 0 where
  pub sized : IsSized m
  pub count : n ≡ count_of m

-- the count of an answer, and whether it is above, where there is one
pub record IsPairOf (m : Option Meet) (s : Pair) : Type 0 where
  pub count : s.count ≡ count_of m
  pub mark : IfSome m (λ n. n.above ≡ s.above)

-- each pair in its place
abbrev pub ArePairsOf : List (Option Meet) → Pairs → Type 0
ArePairsOf (start ∷ end ∷ first ∷ second ∷ third ∷ ms) s =
    IsPairOf start s.start × IsPairOf end s.end × IsPairOf first s.first × IsPairOf second s.second × IsPairOf third s.third
ArePairsOf ms s = ⊥

-- the shadow of a pair
abbrev pub pair_shadow : Pair → ℤ
pair_shadow s = if s.above then s.count else pos 0

-- the shadow of the end less that of the start, less those of the three edges
abbrev pub pairs_number : Pairs → ℤ
pairs_number s = pair_shadow s.end -ℤ pair_shadow s.start -ℤ (pair_shadow s.first +ℤ (pair_shadow s.second +ℤ pair_shadow s.third))

-- a pair has a count, and is above or is not
abbrev pub pair_on : Bool → Pair → Bool
pair_on want s = if int_eq s.count (pos 0) then false else (if want then s.above else not s.above)

-- the place of the first such pair, from 0 to 4, or 5
abbrev pub first_place : Bool → Pairs → ℕ
first_place want s =
    if pair_on want s.start then 0
    else (if pair_on want s.end then 1 else (if pair_on want s.first then 2 else (if pair_on want s.second then 3 else (if pair_on want s.third then 4 else 5))))

-- the spot of the answer at a place of a list
abbrev pub spot_at : List (Option Meet) → ℕ → Spot
spot_at ms i = spot_of (get_or ms i None)

-- the number at a place of a list
abbrev pub number_at : List ℤ → ℕ → ℤ
number_at xs i = slice_index_or xs i (pos 0)

-- three shadows from -1 to 1
pub record AreSmall (xs : List ℤ) : Type 0 where
  pub first : unsigned_abs (number_at xs 0) ≤ 1
  pub second : unsigned_abs (number_at xs 1) ≤ 1
  pub third : unsigned_abs (number_at xs 2) ≤ 1

-- the answers of a vertex with the edges of a face, and of an edge with its corners
abbrev pub vertex_rim : ShadowTest → Corner → List Corner → List (Option Meet)
vertex_rim one p f = map (one (p ∷ [])) (face_edges (corner_at f 0) (corner_at f 1) (corner_at f 2))

abbrev pub edge_corners : ShadowTest → List Corner → List Corner → List (Option Meet)
edge_corners other e f = map (λ c. other e (c ∷ [])) (corner_at f 0 ∷ corner_at f 1 ∷ corner_at f 2 ∷ [])

-- the counts that such shadows make
pub record AreCounts (start end at counts : List ℤ) : Type 0 where
  pub start_count : number_at counts 0 ≡ number_at start 0 +ℤ (number_at start 1 +ℤ number_at start 2)
  pub end_count : number_at counts 1 ≡ number_at end 0 +ℤ (number_at end 1 +ℤ number_at end 2)
  pub first : number_at counts 2 ≡ (number_at end 0 -ℤ number_at start 0) -ℤ (number_at at 0 -ℤ number_at at 1)
  pub second : number_at counts 3 ≡ (number_at end 1 -ℤ number_at start 1) -ℤ (number_at at 1 -ℤ number_at at 2)
  pub third : number_at counts 4 ≡ (number_at end 2 -ℤ number_at start 2) -ℤ (number_at at 2 -ℤ number_at at 0)
