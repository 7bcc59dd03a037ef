use Rattle.std.proofs.Common.{◌≡◌, ◌++◌, take}
use Rattle.crossings.specs.Near.{hits_with}
use Rattle.crossings.proofs.hits.push_hits_among.Given as goal

abbrev pub invariant-loop-place : goal.invariant-loop-place
invariant-loop-place g l =
    l.hits.items ≡ l.fn.hits.items ++ hits_with (g.C.EdgeFace.crossing_of l.pairs) l.edges l.faces l.half (take l.place l.near.faces.items)
