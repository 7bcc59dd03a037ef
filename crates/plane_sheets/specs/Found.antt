-- Edges that are found near, and the regions that edges make.
use Rattle.std.specs.Prelude.{◌≡◌, ℕ, suc, ◌<◌, ◌≤◌, ◌==◌, ℤ, ◌*ℤ◌, List, [], ◌∷◌, Bool, true, false, cond, filter, get_or, length, map}
use Rattle.std.specs.List.{All, flat_map, sum_by}
use Rattle.std.specs.List.Sorted.{IsNonDecreasingBy}
use Rattle.chain_terms.specs.Sums.{total, up_from, upto}
use Rattle.face_plane.specs.Planes.{Plane}
use Rattle.plane_chains.specs.EdgeBoxes.{pair_of}
use Rattle.plane_chains.specs.Nets.{IsStored}
use Rattle.plane_chains.specs.declared.nets.LabelNumber.{LabelNumber}
use Rattle.sheet_terms.specs.Chains.{ChainEdge}
use Rattle.sheet_terms.specs.Numbers.{border}
use Rattle.sheet_terms.specs.Regions.{Region, edge_at}
use Rattle.sheet_terms.specs.Walks.{walks}
use Rattle.plane_sheets.specs.declared.borders.RegionEdge.{RegionEdge}
use Rattle.plane_sheets.specs.declared.regions.SheetRegion.{SheetRegion}
use Rattle.plane_sheets.specs.Dealt.{edges_in}
use Rattle.plane_sheets.specs.Sides.{AreBelow, crosses}

-- numbers of edges, among them, and once, each that crosses the ray from beside edge e
pub record HasCrossing (at : Plane) (es : List (ℕ × ℕ)) (e : ℕ) (near : List ℕ) : Type 0 where
  pub below : All (λ i. i < length es) near
  pub sums : (f : ℕ → ℤ) → total (λ i. f i *ℤ crosses at es e i) near ≡ total (λ i. f i *ℤ crosses at es e i) (upto (length es))
  pub sizes : (g : ℕ → ℕ) → sum_by g near ≤ sum_by g (upto (length es))

-- as many numbers as labels
abbrev pub AreCounted : List (List ℕ) → List ChainEdge → Type 0
AreCounted labels cs = All (λ c. length c.counts ≡ length labels) cs

-- the edges of the regions of a chain up to a level, whatever its labels
abbrev pub AreBorders : ℕ → Plane → List (List ℕ) → List (List LabelNumber) → List RegionEdge → Type 0
AreBorders most at es nets found = (labels : List (List ℕ)) (cs : List ChainEdge) → IsStored cs es nets → AreCounted labels cs →
    (j k : ℕ) → j < length labels → 0 < k → k ≤ most → edges_in j k found ≡ flat_map (edge_at j k) (map (border at labels cs) cs)

-- an edge of one of n labels, and of a level
pub record IsWithin (n most : ℕ) (e : RegionEdge) : Type 0 where
  pub label : e.label < n
  pub low : 0 < e.level
  pub high : e.level ≤ most

-- all are, where the numbers are those of n labels
abbrev pub AreWithin : ℕ → List (List LabelNumber) → List RegionEdge → Type 0
AreWithin most nets found = (n : ℕ) → AreBelow n nets → All (IsWithin n most) found

-- those of a label, and those of a level
abbrev pub of_label : ℕ → List RegionEdge → List RegionEdge
of_label j found = filter (λ e. e.label == j) found

abbrev pub of_level : ℕ → List RegionEdge → List RegionEdge
of_level k found = filter (λ e. e.level == k) found

-- how many at the front have this key
abbrev pub front_count : (RegionEdge → ℕ) → ℕ → List RegionEdge → ℕ
front_count key v [] = 0
front_count key v (e ∷ es) = cond (key e == v) (suc (front_count key v es)) 0

-- in order of labels, and those of a label in order of levels
pub record AreGrouped (found : List RegionEdge) : Type 0 where
  pub labels : IsNonDecreasingBy (λ e. e.label) found
  pub levels : (j : ℕ) → IsNonDecreasingBy (λ e. e.level) (of_label j found)

-- a region of a label that has walks
abbrev pub some_region : ℕ → List (List ℕ) → List (ℕ × List (List ℕ))
some_region j [] = []
some_region j (w ∷ ws) = (j, w ∷ ws) ∷ []

-- the regions of the edges of a label, up to a level
abbrev pub label_regions : Plane → ℕ → ℕ → List RegionEdge → List (ℕ × List (List ℕ))
label_regions at most j own = flat_map (λ k. some_region j (walks at (map (λ e. pair_of e.ends) (of_level k own)))) (up_from 1 most)

-- those of n labels
abbrev pub side_regions : Plane → ℕ → ℕ → List RegionEdge → List (ℕ × List (List ℕ))
side_regions at most n found = flat_map (λ j. label_regions at most j (of_label j found)) (upto n)

-- a region by its label and its walks
abbrev pub shown : SheetRegion → ℕ × List (List ℕ)
shown r = (r.label, r.walks.items)

-- and as the definition has it
abbrev pub region_in : List (List ℕ) → SheetRegion → Region
region_in labels r = record { label = get_or labels r.label []; walks = r.walks.items }

-- a list has a member
abbrev pub is_some_list : {X : Type 0} → List X → Bool
is_some_list [] = false
is_some_list (x ∷ xs) = true

-- a region has walks
abbrev pub has_walks : Region → Bool
has_walks r = is_some_list r.walks
