-- The first members of a list, kept as keys one after the other, and for each member the place of its key.
use Rattle.std.specs.Prelude.{◌≡◌, ℕ, ◌<◌, List, Bool, true, get_or, length, map}
use Rattle.std.specs.List.{All, list_any, position_or_len}
use Rattle.sheet_terms.specs.Places.{firsts}

-- of members their first ones, and for each the place of the first one like it
pub record ArePlaced {X : Type 0} (eq : X → X → Bool) (xs keys : List X) (of : List ℕ) : Type 0 where
  pub keys_are : keys ≡ firsts eq xs
  pub places : of ≡ map (λ x. position_or_len (eq x) keys) xs
  pub there : All (λ x. list_any (eq x) keys ≡ true) xs
  pub own : (k : ℕ) (d : X) → k < length keys → position_or_len (eq (get_or keys k d)) keys ≡ k
