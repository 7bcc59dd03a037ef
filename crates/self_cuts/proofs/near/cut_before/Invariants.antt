use Rattle.std.proofs.Common.{◌≡◌, ◌≤◌, take}
use Rattle.std.specs.Prelude.{◌&&◌, count_by, nat_lt}
use Rattle.inspection_laws.specs.Signs.{are_cutting}
use Rattle.self_cuts.specs.Faces.{corners, places}
use Rattle.self_cuts.proofs.near.cut_before.Given as goal

abbrev pub invariant-loop-s : goal.invariant-loop-s
invariant-loop-s l = record {
  value : l.count ≡ count_by (λ s. nat_lt s.number l.t && are_cutting (places s.triangle) (corners l.o)) (take l.s-index l.seen);
  few : l.count ≤ l.s-index;
}
