-- Edges that are sorted with what they are sorted by.
use Rattle.std.specs.Prelude.{ℕ}
use Rattle.cross_section.specs.declared.numbers.order.Placed.{Placed}

-- the edge itself
abbrev pub edge_in : Placed → ℕ × ℕ
edge_in p = (p.from, p.to)
