use Rattle.std.proofs.Common.{◌≡◌, map}
use Rattle.inspection_laws.specs.Sharing.{edges_upto}
use Rattle.self_cuts.proofs.edges.edges.Given as goal

-- those of the triangles so far
abbrev pub invariant-loop-t : goal.invariant-loop-t
invariant-loop-t l = record {
  lows : l.lows.items ≡ map (λ x. x.0) (edges_upto l.mesh l.firsts l.t);
  highs : l.highs.items ≡ map (λ x. x.1) (edges_upto l.mesh l.firsts l.t);
}
