use Rattle.std.proofs.Common.{◌≡◌, ◌++◌, reverse, take}
use Rattle.edge_cutting.proofs.cuts.push_back.Given as goal

-- the last places so far are added
abbrev pub invariant-loop-i : goal.invariant-loop-i
invariant-loop-i l = l.rim.items ≡ l.initial.rim.items ++ take l.i (reverse l.places)
