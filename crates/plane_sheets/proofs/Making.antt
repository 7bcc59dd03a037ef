-- The regions of the first group of grouped edges are made, and those of the others are left.
use Rattle.std.proofs.Common.{arith, ◌≡◌, ℕ, ◌<◌, ◌≤◌, List, [], ◌∷◌, ◌++◌, drop, length, map, get_or, take, refl, sym, ap, ◌∙◌, append-nil, append_assoc}
use Rattle.std.specs.List.{All}
use Rattle.std.proofs.lemmas.List.{map-append}
use Rattle.face_plane.specs.Planes.{Plane}
use Rattle.plane_chains.specs.EdgeBoxes.{pair_of}
use Rattle.sheet_terms.specs.Walks.{walks}
use Rattle.plane_sheets.specs.declared.borders.RegionEdge.{RegionEdge}
use Rattle.plane_sheets.specs.declared.regions.SheetRegion.{SheetRegion}
use Rattle.plane_sheets.specs.Found.{IsWithin, front_count, label_regions, shown, side_regions}
use Rattle.plane_sheets.proofs.Grouping.{no_regions, no_sides}
use Rattle.plane_sheets.proofs.Runs.{label_taken, level_taken}
use Rattle.plane_sheets.proofs.Ties.{StepsBy}

-- an edge that is read where there is none
abbrev pub no_border : RegionEdge
no_border = record { label = 0; level = 0; ends = [] }

-- a list without members
pub none_left : {X : Type 0} (xs : List X) → length xs ≤ 0 → xs ≡ []
none_left [] h = refl
none_left (x ∷ xs) h = absurd (omega (arith, h))

-- a region is made of the first level of a label
pub level_made : (at : Plane) (n most j : ℕ) (es own later : List RegionEdge) (count : ℕ) (old new : List SheetRegion) (r : SheetRegion) (all : List (ℕ × List (List ℕ))) →
    0 < length es →
    StepsBy (λ e. e.level) 0 es → All (IsWithin n most) es → count ≡ front_count (λ e. e.level) (get_or es 0 no_border).level es → own ≡ take count es →
    later ≡ drop count es → new ≡ old ++ r ∷ [] →
    r.label ≡ j → r.walks.items ≡ walks at (map (λ e. pair_of e.ends) own) → map shown old ++ label_regions at most j es ≡ all →
    map shown new ++ label_regions at most j later ≡ all
level_made at n most j es own later count old new r all some steps within counted front back grown label value before =
    let rest = label_regions at most j (drop count es) in
    let taken : r.walks.items ≡ walks at (map (λ (e : RegionEdge). pair_of e.ends) (take count es)) = value
    ∙ ap (λ l. walks at (map (λ (e : RegionEdge). pair_of e.ends) l)) front in
    ap (λ l. map shown new ++ label_regions at most j l) back ∙ ap (λ l. map shown l ++ rest) grown ∙ ap (λ l. l ++ rest) (map-append shown old (r ∷ []))
    ∙ append_assoc (map shown old) (shown r ∷ []) rest
    ∙ ap (λ l. map shown old ++ l)
    (ap (λ k. (k, r.walks.items) ∷ rest) label ∙ sym (level_taken at n most j es no_border count r.walks.items some steps within counted taken)) ∙ before

-- the regions of the first label are
pub label_made : (at : Plane) (n most l : ℕ) (es own later : List RegionEdge) (count : ℕ) (old new all : List (ℕ × List (List ℕ))) → 0 < length es → StepsBy (λ e. e.label) 0 es →
    All (IsWithin n most) es → count ≡ front_count (λ e. e.label) (get_or es 0 no_border).label es → l ≡ (get_or es 0 no_border).label →
    own ≡ take count es → later ≡ drop count es → new ≡ old ++ label_regions at most l own → old ++ side_regions at most n es ≡ all → new ++ side_regions at most n later ≡ all
label_made at n most l es own later count old new all some steps within counted label front back grown before =
    let rest = side_regions at most n (drop count es) in
    ap (λ l. new ++ side_regions at most n l) back ∙ ap (λ r. r ++ rest) (grown ∙ ap (λ m. old ++ label_regions at most l m) front)
    ∙ append_assoc old (label_regions at most l (take count es)) rest
    ∙ ap (λ r. old ++ r) (ap (λ k. label_regions at most k (take count es) ++ rest) label ∙ sym (label_taken at n most es no_border count some steps within counted)) ∙ before

-- where no edge is left all are made
pub levels_done : (at : Plane) (most j : ℕ) (es : List RegionEdge) (made all : List (ℕ × List (List ℕ))) → length es ≤ 0 → made ++ label_regions at most j es ≡ all → made ≡ all
levels_done at most j es made all none before =
    sym (append-nil made) ∙ ap (λ l. made ++ l) (sym (ap (label_regions at most j) (none_left es none) ∙ no_regions at j 1 most)) ∙ before

pub labels_done : (at : Plane) (most n : ℕ) (es : List RegionEdge) (made all : List (ℕ × List (List ℕ))) → length es ≤ 0 → made ++ side_regions at most n es ≡ all → made ≡ all
labels_done at most n es made all none before =
    sym (append-nil made) ∙ ap (λ l. made ++ l) (sym (ap (side_regions at most n) (none_left es none) ∙ no_sides at most 0 n)) ∙ before
