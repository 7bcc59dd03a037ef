use Rattle.std.proofs.Common.{◌≡◌, map, take}
use Rattle.std.specs.List.{zip}
use Rattle.edge_pairing.specs.Entries.{edge_of}
use Rattle.edge_pairing.proofs.pairs.joined.Given as goal

abbrev pub invariant-loop-i : goal.invariant-loop-i
invariant-loop-i l = map edge_of l.segments.items ≡ take l.i (zip (map (λ k. k.vertex) l.starts) (map (λ k. k.vertex) l.ends))
