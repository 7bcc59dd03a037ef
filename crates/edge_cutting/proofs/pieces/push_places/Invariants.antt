use Rattle.std.proofs.Common.{◌≡◌, ◌++◌, map, take}
use Rattle.edge_cutting.proofs.pieces.push_places.Given as goal

-- the places so far are added
abbrev pub invariant-loop-place : goal.invariant-loop-place
invariant-loop-place l = l.inside.items ≡ l.initial.inside.items ++ map (λ f. f.1) (take l.place-index l.found)
