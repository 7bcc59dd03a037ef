use Rattle.std.proofs.Common.{rules, arith, nat_lt, ◌≢◌, ◌<◌, length, get_or}
use Rattle.std.proofs.lemmas.List.Sorted.{IsPartitionPoint-from_clause}
use Rattle.face_loops.proofs.Listing.{IsPointOf, point_found, none_listed}
use Rattle.face_loops.proofs.starts.halved.Goals as goal
use Rattle.face_loops.proofs.starts.halved.Goals.{else-at-index-via-then-at-index+else-index-at, else-at-index-via-else-at-index}

pub returns-else-at-index : goal.returns-else-at-index
returns-else-at-index c =
    let at = c.partition_point-at.result in
    let point : IsPointOf c.args.index.now c.args.vertex at =
    IsPartitionPoint-from_clause (λ s. nat_lt s.0 c.args.vertex) c.args.index.now at c.partition_point-at.ensures.partitioned
    (point_found c.args.index.now c.args.vertex c.requires) (λ a r q k. search rules) in
    let other : at < length c.args.index.now → (get_or c.args.index.now at (0, 0)).0 ≢ c.args.vertex = elim c.else-at-index.branch [
      | else-at-index-via-then-at-index+else-index-at w ↦ λ l. w.if-index-at.false
      | else-at-index-via-else-at-index w ↦ λ l. absurd (omega (arith, w.if-at-index.false, l))
    ] in
    none_listed c.args.index.now c.args.vertex at c.requires point other
