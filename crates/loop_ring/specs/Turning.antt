-- Lists that are read round.
use Rattle.std.specs.Prelude.{ℕ, List, ◌++◌, take, drop}

-- the list from its i-th place, once round
abbrev pub turned_to : {X : Type 0} → ℕ → List X → List X
turned_to i xs = drop i xs ++ take i xs
