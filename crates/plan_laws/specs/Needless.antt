-- Which places are needless, by what edges there are.
use Rattle.std.specs.Prelude.{◌≡◌, ℕ, ℤ, List, Bool}
use Rattle.std.specs.List.{list_any}
use Rattle.sheet_terms.specs.Chains.{same_edge}
use Rattle.sheet_terms.specs.Needless.{is_needless}

-- the same edges are in two lists
abbrev pub HaveSameEdges : List (ℕ × ℕ) → List (ℕ × ℕ) → Type 0
HaveSameEdges es ms = (e : ℕ × ℕ) → list_any (same_edge e) es ≡ list_any (same_edge e) ms

-- then the same places are needless
abbrev pub NeedlessByEdges : Type 0
NeedlessByEdges = (points : List (List ℤ)) (es ms : List (ℕ × ℕ)) → HaveSameEdges es ms → ◌≡◌ {A = ℕ → Bool} (is_needless points es) (is_needless points ms)
