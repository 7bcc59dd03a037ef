-- Numbers of labels, of which those other than 0 are listed.
use Rattle.std.specs.Prelude.{◌≡◌, ℕ, suc, ◌+◌, ◌<◌, ◌≤◌, ℤ, pos, ◌+ℤ◌, List, [], ◌∷◌, ◌++◌, cond, get_or, length, map, set, unsigned_abs}
use Rattle.std.specs.List.{All}
use Rattle.std.specs.Ordering.{int_eq}
use Rattle.sheet_terms.specs.Chains.{ChainEdge}
use Rattle.plane_chains.specs.declared.nets.LabelNumber.{LabelNumber}

-- those other than 0 with their labels, the first of which is k
unfoldable pub nonzero_from : ℕ → List ℤ → List LabelNumber
nonzero_from k [] = []
nonzero_from k (n ∷ ns) = cond (int_eq n (pos 0)) [] (record { label = k; number = n } ∷ []) ++ nonzero_from (suc k) ns

-- where labels are counted from 0
abbrev pub nonzero : List ℤ → List LabelNumber
nonzero ns = nonzero_from 0 ns

-- a number was added for a label
pub record IsAdded (old new : List LabelNumber) (label : ℕ) (number : ℤ) : Type 0 where
  pub sum : (ns : List ℤ) → old ≡ nonzero ns → label < length ns → new ≡ nonzero (set ns label (get_or ns label (pos 0) +ℤ number))
  pub small : (most : ℕ) → All (λ (e : LabelNumber). unsigned_abs e.number ≤ most) old → All (λ (e : LabelNumber). unsigned_abs e.number ≤ most + unsigned_abs number) new

-- an edge as a list of two places
abbrev pub edge_list : (ℕ × ℕ) → List ℕ
edge_list e = e.0 ∷ e.1 ∷ []

-- what is stored of a chain: its edges, and for each the numbers other than 0
pub record IsStored (cs : List ChainEdge) (es : List (List ℕ)) (ns : List (List LabelNumber)) : Type 0 where
  pub edges : es ≡ map (λ c. edge_list c.edge) cs
  pub nets : ns ≡ map (λ c. nonzero c.counts) cs
