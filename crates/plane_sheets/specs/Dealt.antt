-- The edges of regions, from the numbers at both sides of an edge.
use Rattle.std.specs.Prelude.{ℕ, ◌+◌, ◌-◌, ◌==◌, ◌&&◌, min, ℤ, List, [], ◌∷◌, ◌++◌, cond, filter, map}
use Rattle.chain_terms.specs.Sums.{up_from}
use Rattle.plane_chains.specs.EdgeBoxes.{pair_of}
use Rattle.sheet_terms.specs.Numbers.{above_zero}
use Rattle.plane_sheets.specs.declared.borders.RegionEdge.{RegionEdge}
use Rattle.plane_sheets.specs.declared.side_numbers.SideNumbers.{SideNumbers}

-- of so many sheets as many as fall to label j, where each label gets as many as its number says, the first ones first
abbrev pub share : ℕ → List (ℕ × ℤ) → ℕ → ℕ
share rest [] j = 0
share rest (p ∷ ps) j = let k = min rest (above_zero p.1) in cond (p.0 == j) k (share (rest - k) ps j)

-- an edge of a label for each level above one, up to another
abbrev pub run : ℕ → ℕ → ℕ → List ℕ → List RegionEdge
run l low high e = map (λ k. record { label = l; level = k + 1; ends = e }) (up_from low (high - low))

-- the edge from a to b, with x sheets of a label at its left and y at its right: one for each number of sheets that only one side has, which it then has at its left
abbrev pub levels : ℕ → ℕ → ℕ → ℕ → ℕ → List RegionEdge
levels l x y a b = run l y x (a ∷ b ∷ []) ++ run l x y (b ∷ a ∷ [])

-- those of all labels, where so many sheets are dealt out at both sides, of each label the most at most
abbrev pub dealt_edges : ℕ → ℕ → ℕ → ℕ → ℕ → List SideNumbers → List RegionEdge
dealt_edges most a b left right [] = []
dealt_edges most a b left right (s ∷ ss) =
    let x = min left (above_zero s.left) in
    let y = min right (above_zero s.right) in
    levels s.label (min x most) (min y most) a b ++ dealt_edges most a b (left - x) (right - y) ss

-- the edges of the region of label j and level k
abbrev pub edges_in : ℕ → ℕ → List RegionEdge → List (ℕ × ℕ)
edges_in j k found = map (λ e. pair_of e.ends) (filter (λ e. (e.label == j) && (e.level == k)) found)
