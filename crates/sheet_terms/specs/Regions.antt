-- Regions: where so many sheets of a label face a side of a plane.
use Rattle.std.specs.Prelude.{ℕ, ℤ, List, [], ◌∷◌, ◌++◌, ◌&&◌, if◌then◌else◌, nat_le, nat_lt, length, get_or, map, filter}
use Rattle.std.specs.List.{flat_map}
use Rattle.chain_terms.specs.Sums.{up_from, upto}
use Rattle.face_plane.specs.Planes.{Plane}
use Rattle.sheet_terms.specs.Chains.{chain}
use Rattle.sheet_terms.specs.Crossings.{coplanar}
use Rattle.sheet_terms.specs.Faces.{Face, is_left, labels_of, seen, sides}
use Rattle.sheet_terms.specs.Kept.{free, kept}
use Rattle.sheet_terms.specs.Numbers.{Border, border}
use Rattle.sheet_terms.specs.Walks.{walks}

-- the edge where at least k sheets of label j lie at one side of it and fewer at the other, those at the left
abbrev pub edge_at : ℕ → ℕ → Border → List (ℕ × ℕ)
edge_at j k b =
    let x = get_or b.left j 0 in
    let y = get_or b.right j 0 in
    if nat_le k x && nat_lt y k then b.edge ∷ [] else if nat_le k y && nat_lt x k then (b.edge.1, b.edge.0) ∷ [] else []

-- a region with its label: walks that have it at their left
pub record Region : Type 0 where
  pub label : List ℕ
  pub walks : List (List ℕ)

-- where at least k sheets of label j lie
abbrev pub region : Plane → List (List ℕ) → List Border → ℕ → ℕ → Region
region at labels bs j k = record { label = get_or labels j []; walks = walks at (flat_map (edge_at j k) bs) }

-- those of all labels, and of each for 1, .., n sheets
abbrev pub regions_within : ℕ → Plane → List (List ℕ) → List Border → List Region
regions_within n at labels bs = flat_map (λ j. map (region at labels bs j) (up_from 1 n)) (upto (length labels))

-- there are no more sheets than triangles
abbrev pub regions : Plane → List (List ℕ) → List Face → List Region
regions at labels fs = let cs = chain labels fs in regions_within (length fs) at labels (map (border at labels cs) cs)

-- a kept triangle is a region of its own
abbrev pub kept_region : Face → Region
kept_region f = record { label = f.label; walks = f.rim ∷ [] }

-- a side of a plane: a triangle that faces it, its regions, and how many triangles that face it are kept
pub record Side : Type 0 where
  pub face : Face
  pub regions : List Region
  pub kept : ℕ

-- the side that s faces; of the kept triangles of the plane it has those that face it
abbrev pub side_of : List (List ℤ) → List Face → Face → Side
side_of points fs s =
    let at = seen points s in
    let own = coplanar points fs s in
    let stay = filter (λ f. is_left at f.corners) (kept at own) in
    record { face = s; regions = regions at (labels_of own) (free at own) ++ map kept_region stay; kept = length stay }

-- the sides of all planes, by their first triangles
abbrev pub all_sides : List (List ℤ) → List Face → List Side
all_sides points fs = map (side_of points fs) (sides points fs)
