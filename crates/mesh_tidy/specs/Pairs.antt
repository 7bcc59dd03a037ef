-- Two that are made each other's twins.
use Rattle.std.specs.Prelude.{ℕ, List, set}

-- each is put at the other's place
abbrev pub paired : List ℕ → ℕ → ℕ → List ℕ
paired twins x y = set (set twins x y) y x
