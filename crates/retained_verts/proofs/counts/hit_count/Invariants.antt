use Rattle.std.proofs.Common.{◌≡◌, ◌≤◌, ◌*◌, take}
use Rattle.side_terms.specs.Prescribed.{hit_count}
use Rattle.retained_verts.proofs.counts.hit_count.Given as goal

abbrev pub invariant-loop-hit : goal.invariant-loop-hit
invariant-loop-hit l = record {
  value : l.count ≡ hit_count l.op (take l.hit-index l.hits);
  small : l.count ≤ 2 * l.hit-index;
}
