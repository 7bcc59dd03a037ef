-- The copies of each vertex, by the number of the first.
use Rattle.std.specs.Prelude.{ℕ, ◌+◌, ℤ, pos, List, [], ◌∷◌, nat_abs, int_lt}
use Rattle.source_faces.specs.declared.lists.runs.CopyRange.{CopyRange}

-- the copies of vertices with these numbers, of which the first copy of all is number k
abbrev pub runs_from : ℕ → List ℤ → List CopyRange
runs_from k [] = []
runs_from k (n ∷ ns) = record { first = k; count = nat_abs n; negative = int_lt n (pos 0) } ∷ runs_from (k + nat_abs n) ns
