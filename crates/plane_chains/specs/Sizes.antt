-- The sizes of the numbers of a chain.
use Rattle.std.specs.Prelude.{ℕ, List, unsigned_abs}
use Rattle.std.specs.List.{sum_by}
use Rattle.plane_chains.specs.declared.nets.LabelNumber.{LabelNumber}

-- the sum of the sizes of the numbers of an edge, and of those of all edges
abbrev pub size_of : List LabelNumber → ℕ
size_of ns = sum_by (λ n. unsigned_abs n.number) ns

abbrev pub sizes : List (List LabelNumber) → ℕ
sizes nets = sum_by size_of nets
