use Rattle.std.proofs.Common.{◌≡◌}
use Rattle.cross_section.proofs.NearHits.{hits_before}
use Rattle.cross_section.proofs.numbers.hits.hits_of.Given as goal

abbrev pub invariant-loop-edge : goal.invariant-loop-edge
invariant-loop-edge g l = l.hits.items ≡ hits_before (g.K.Meets.meet_of l.kernels) (g.R.Rounding.settle_of l.rounding) l.p l.q l.edge
