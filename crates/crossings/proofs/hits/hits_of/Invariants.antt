use Rattle.std.proofs.Common.{◌≡◌, ◌≤◌, ◌*◌, ◌-◌}
use Rattle.crossings.specs.Hits.{hits_before}
use Rattle.crossings.proofs.hits.hits_of.Given as goal

abbrev pub invariant-loop-from : goal.invariant-loop-from
invariant-loop-from g l = record {
  within : l.from ≤ l.count;
  hits : l.hits.items ≡ hits_before (g.C.EdgeFace.crossing_of l.pairs) l.edges l.faces (3 * l.from);
}

abbrev pub decreases-loop-from : goal.decreases-loop-from
decreases-loop-from g l = l.count - l.from
