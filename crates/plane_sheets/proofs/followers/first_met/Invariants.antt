use Rattle.std.proofs.Common.{◌≡◌, ◌<◌, length, map, take}
use Rattle.sheet_terms.specs.Walks.{first_met}
use Rattle.plane_sheets.specs.Seen.{seen_in}
use Rattle.plane_sheets.proofs.followers.first_met.Given as goal

abbrev pub invariant-loop-each : goal.invariant-loop-each
invariant-loop-each l = record {
  value : l.first ≡ first_met (seen_in l.flat) l.s l.p l.n (map (λ e. e.to) (take l.each-index l.leaving));
  below : 0 < length l.leaving → l.first < length l.flat.points.now;
}
