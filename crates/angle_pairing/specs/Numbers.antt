-- The places of the members of a list.
use Rattle.std.specs.Prelude.{◌≡◌, ◌≢◌, ℕ, ◌<◌, List, length, get_or}

-- no member stands twice
abbrev pub AreDifferent : List ℕ → Type 0
AreDifferent hs = (i j : ℕ) → i < j → j < length hs → get_or hs i 0 ≢ get_or hs j 0

-- each of the first half-edges has its place in their list as its number
pub record AreNumbered (n : ℕ) (numbers firsts : List ℕ) : Type 0 where
  pub full : length numbers ≡ n
  pub each : (k : ℕ) → k < length firsts → get_or numbers (get_or firsts k 0) 0 ≡ k
