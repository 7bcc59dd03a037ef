-- Brackets on a circle: members that open and members that close.
use Rattle.std.specs.Prelude.{◌≡◌, ◌≢◌, ℕ, ◌<◌, List, Bool, not, if◌then◌else◌, length, get_or, count_by, reverse}
use Rattle.sheet_terms.specs.Twins.{closing, rest_from}

-- the bracket that matches a member of a circle
abbrev pub circle_twin : (ℕ → Bool) → List ℕ → ℕ → ℕ
circle_twin opens hs h = let rest = rest_from h hs in if opens h then closing opens rest else closing (λ g. not (opens g)) (reverse rest)

-- the members differ, and as many open as close
pub record AreBrackets (opens : ℕ → Bool) (hs : List ℕ) : Type 0 where
  pub differ : (i j : ℕ) → i < j → j < length hs → get_or hs i 0 ≢ get_or hs j 0
  pub even : count_by opens hs ≡ count_by (λ h. not (opens h)) hs
