-- Regions of edges are those of the definition that have walks; and sorting keeps the edges of each region.
use Rattle.std.proofs.Common.{arith, ◌≡◌, ℕ, zero, suc, ◌+◌, ◌<◌, ◌≤◌, ◌==◌, List, [], ◌∷◌, ◌++◌, filter, get_or, length, map, refl, sym, ap, subst, ◌∙◌}
use Rattle.std.specs.List.{All, flat_map}
use Rattle.std.specs.List.Sorted.{IsNonDecreasingBy, IsStableByKey}
use Rattle.std.specs.Ordering.{nat_cmp}
use Rattle.std.proofs.lemmas.List.{map-append}
use Rattle.std.proofs.lemmas.List.Elements.{All-append, All-cons, All-head, All-nil, All-tail, filter-append}
use Rattle.chain_terms.specs.Sums.{up_from}
use Rattle.face_plane.specs.Planes.{Plane}
use Rattle.plane_chains.specs.EdgeBoxes.{pair_of}
use Rattle.sheet_terms.specs.Numbers.{Border}
use Rattle.sheet_terms.specs.Regions.{Region, edge_at, region, regions_within}
use Rattle.sheet_terms.specs.Walks.{walks}
use Rattle.plane_sheets.specs.declared.borders.RegionEdge.{RegionEdge}
use Rattle.plane_sheets.specs.declared.regions.SheetRegion.{SheetRegion}
use Rattle.plane_sheets.specs.Dealt.{edges_in}
use Rattle.plane_sheets.specs.Found.{AreGrouped, has_walks, label_regions, of_label, of_level, region_in, shown, side_regions, some_region}
use Rattle.plane_sheets.proofs.Ties.{filter_both, filter_swap, rise_steps, stable_class, steps_filter, steps_from}

-- a region with the label of its number
abbrev pub named : List (List ℕ) → (ℕ × List (List ℕ)) → Region
named labels r = record { label = get_or labels r.0 []; walks = r.1 }

pub shown_named : (labels : List (List ℕ)) (rs : List SheetRegion) → map (region_in labels) rs ≡ map (named labels) (map shown rs)
shown_named labels [] = refl
shown_named labels (r ∷ rs) = ap (λ l. region_in labels r ∷ l) (shown_named labels rs)

-- a region in front of others, where it has walks
level_step : (labels : List (List ℕ)) (j : ℕ) (ws : List (List ℕ)) (rest : List (ℕ × List (List ℕ))) (others : List Region) → map (named labels) rest ≡ filter has_walks others →
    map (named labels) (some_region j ws ++ rest) ≡ filter has_walks (record { label = get_or labels j []; walks = ws } ∷ others)
level_step labels j [] rest others same = same
level_step labels j (w ∷ ws) rest others same = ap (λ l. record { label = get_or labels j []; walks = w ∷ ws } ∷ l) same

-- those of a label
label_same : (labels : List (List ℕ)) (j : ℕ) (v w : ℕ → List (List ℕ)) (k m : ℕ) → ((i : ℕ) → k ≤ i → i < k + m → v i ≡ w i) →
    map (named labels) (flat_map (λ i. some_region j (v i)) (up_from k m)) ≡ filter has_walks (map (λ i. record { label = get_or labels j []; walks = w i }) (up_from k m))
label_same labels j v w k zero same = refl
label_same labels j v w k (suc m) same =
    ap (λ u. map (named labels) (some_region j u ++ flat_map (λ i. some_region j (v i)) (up_from (suc k) m))) (same k (omega arith) (omega arith))
    ∙ level_step labels j (w k) (flat_map (λ i. some_region j (v i)) (up_from (suc k) m)) (map (λ i. record { label = get_or labels j []; walks = w i }) (up_from (suc k) m))
    (label_same labels j v w (suc k) m (λ i l h. same i (omega (arith, l)) (omega (arith, h))))

-- and those of all labels
side_same : (labels : List (List ℕ)) (f : ℕ → List (ℕ × List (List ℕ))) (g : ℕ → List Region) (k m : ℕ) →
    ((i : ℕ) → k ≤ i → i < k + m → map (named labels) (f i) ≡ filter has_walks (g i)) →
    map (named labels) (flat_map f (up_from k m)) ≡ filter has_walks (flat_map g (up_from k m))
side_same labels f g k zero same = refl
side_same labels f g k (suc m) same =
    map-append (named labels) (f k) (flat_map f (up_from (suc k) m))
    ∙ ap (λ l. l ++ map (named labels) (flat_map f (up_from (suc k) m))) (same k (omega arith) (omega arith))
    ∙ ap (λ l. filter has_walks (g k) ++ l) (side_same labels f g (suc k) m (λ i l h. same i (omega (arith, l)) (omega (arith, h))))
    ∙ sym (filter-append has_walks (g k) (flat_map g (up_from (suc k) m)))

-- the edges of a label and a level
pub edges_of_class : (j k : ℕ) (found : List RegionEdge) → map (λ (e : RegionEdge). pair_of e.ends) (of_level k (of_label j found)) ≡ edges_in j k found
edges_of_class j k found = ap (map (λ (e : RegionEdge). pair_of e.ends)) (filter_both (λ (e : RegionEdge). e.label == j) (λ e. e.level == k) found)

-- regions of the edges of borders
pub regions_are : (at : Plane) (labels : List (List ℕ)) (bs : List Border) (most : ℕ) (found : List RegionEdge) (rs : List SheetRegion) →
    ((j k : ℕ) → j < length labels → 0 < k → k ≤ most → edges_in j k found ≡ flat_map (edge_at j k) bs) → map shown rs ≡ side_regions at most (length labels) found →
    map (region_in labels) rs ≡ filter has_walks (regions_within most at labels bs)
regions_are at labels bs most found rs edges made =
    shown_named labels rs ∙ ap (map (named labels)) made
    ∙ side_same labels (λ j. label_regions at most j (of_label j found)) (λ j. map (region at labels bs j) (up_from 1 most)) 0 (length labels)
    (λ j l below. label_same labels j (λ k. walks at (map (λ (e : RegionEdge). pair_of e.ends) (of_level k (of_label j found)))) (λ k. walks at (flat_map (edge_at j k) bs)) 1 most
    (λ k low high. ap (walks at) (edges_of_class j k found ∙ edges j k (omega (arith, below)) (omega (arith, low)) (omega (arith, high)))))

-- their labels are below how many there are
some_label : (n j : ℕ) (ws : List (List ℕ)) → j < n → All (λ (p : ℕ × List (List ℕ)). p.0 < n) (some_region j ws)
some_label n j [] below = All-nil (λ (p : ℕ × List (List ℕ)). p.0 < n)
some_label n j (w ∷ ws) below = All-cons (λ (p : ℕ × List (List ℕ)). p.0 < n) (j, w ∷ ws) [] below (All-nil (λ (p : ℕ × List (List ℕ)). p.0 < n))

one_label : (n j : ℕ) (v : ℕ → List (List ℕ)) (k m : ℕ) → j < n → All (λ (p : ℕ × List (List ℕ)). p.0 < n) (flat_map (λ i. some_region j (v i)) (up_from k m))
one_label n j v k zero below = All-nil (λ (p : ℕ × List (List ℕ)). p.0 < n)
one_label n j v k (suc m) below =
    All-append (λ (p : ℕ × List (List ℕ)). p.0 < n) (some_region j (v k)) (flat_map (λ i. some_region j (v i)) (up_from (suc k) m)) (some_label n j (v k) below)
    (one_label n j v (suc k) m below)

all_labels : (n most : ℕ) (at : Plane) (found : List RegionEdge) (k m : ℕ) → k + m ≤ n →
    All (λ (p : ℕ × List (List ℕ)). p.0 < n) (flat_map (λ j. label_regions at most j (of_label j found)) (up_from k m))
all_labels n most at found k zero h = All-nil (λ (p : ℕ × List (List ℕ)). p.0 < n)
all_labels n most at found k (suc m) h =
    All-append (λ (p : ℕ × List (List ℕ)). p.0 < n) (label_regions at most k (of_label k found)) (flat_map (λ j. label_regions at most j (of_label j found)) (up_from (suc k) m))
    (one_label n k (λ i. walks at (map (λ (e : RegionEdge). pair_of e.ends) (of_level i (of_label k found)))) 1 most (omega (arith, h)))
    (all_labels n most at found (suc k) m (omega (arith, h)))

shown_labels : (n : ℕ) (rs : List SheetRegion) → All (λ (p : ℕ × List (List ℕ)). p.0 < n) (map shown rs) → All (λ (r : SheetRegion). r.label < n) rs
shown_labels n [] h = All-nil (λ (r : SheetRegion). r.label < n)
shown_labels n (r ∷ rs) h =
    All-cons (λ (r : SheetRegion). r.label < n) r rs (All-head (λ (p : ℕ × List (List ℕ)). p.0 < n) (shown r) (map shown rs) h)
    (shown_labels n rs (All-tail (λ (p : ℕ × List (List ℕ)). p.0 < n) (shown r) (map shown rs) h))

pub labels_below : (at : Plane) (most n : ℕ) (found : List RegionEdge) (rs : List SheetRegion) → map shown rs ≡ side_regions at most n found → All (λ (r : SheetRegion). r.label < n) rs
labels_below at most n found rs made =
    shown_labels n rs (subst (All (λ (p : ℕ × List (List ℕ)). p.0 < n)) (sym made) (all_labels n most at found 0 n (omega arith)))

-- an edge of a label, and one of a level
abbrev of_number : ℕ → RegionEdge
of_number v = record { label = v; level = v; ends = [] }

-- sorted by level, then by label, both times stably, edges keep their order in each region
pub sorted_class : (j k : ℕ) (xs ys zs : List RegionEdge) → IsStableByKey (λ e. e.level) nat_cmp xs ys → IsStableByKey (λ e. e.label) nat_cmp ys zs →
    edges_in j k zs ≡ edges_in j k xs
sorted_class j k xs ys zs first second =
    let label = stable_class (λ (e : RegionEdge). e.label) ys zs j (of_number j) refl second in
    let level = stable_class (λ (e : RegionEdge). e.level) xs ys k (of_number k) refl first in
    ap (map (λ (e : RegionEdge). pair_of e.ends))
    (sym (filter_both (λ (e : RegionEdge). e.label == j) (λ e. e.level == k) zs) ∙ ap (filter (λ (e : RegionEdge). e.level == k)) label
    ∙ filter_swap (λ (e : RegionEdge). e.label == j) (λ e. e.level == k) ys ∙ ap (filter (λ (e : RegionEdge). e.label == j)) level
    ∙ sym (filter_swap (λ (e : RegionEdge). e.label == j) (λ e. e.level == k) xs) ∙ filter_both (λ (e : RegionEdge). e.label == j) (λ e. e.level == k) xs)

-- and are grouped
pub sorted_grouped : (ys zs : List RegionEdge) → IsNonDecreasingBy (λ e. e.level) ys → IsNonDecreasingBy (λ e. e.label) zs →
    IsStableByKey (λ e. e.label) nat_cmp ys zs → AreGrouped zs
sorted_grouped ys zs levels labels second = record {
  labels = labels;
  levels = λ j. subst (IsNonDecreasingBy (λ (e : RegionEdge). e.level)) (sym (stable_class (λ (e : RegionEdge). e.label) ys zs j (of_number j) refl second))
      (rise_steps (λ (e : RegionEdge). e.level) 0 (of_label j ys)
      (steps_filter (λ (e : RegionEdge). e.level) (λ e. e.label == j) 0 ys (steps_from (λ (e : RegionEdge). e.level) 0 ys levels (λ d h. omega arith))));
}
