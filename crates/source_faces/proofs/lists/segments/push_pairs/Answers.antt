use Rattle.std.proofs.Common.{◌-◌, ◌++◌, append_assoc, map, take, drop, arith, ap, ◌∙◌, sym}
use Rattle.edge_pairing.specs.Entries.{edge_of}
use Rattle.source_faces.specs.Agreement.{no_stand}
use Rattle.source_faces.specs.Entries.{entry_of}
use Rattle.source_faces.specs.ListParts.{CanBePaired, pair_segments, pairs_segments}
use Rattle.source_faces.proofs.Pieces.{group_by_group, group_long, pair_by_pair}
use Rattle.source_faces.proofs.lists.segments.push_pairs.Goals as goal

pub push_pair-requires : goal.push_pair-requires
push_pair-requires c =
    (group_by_group (λ g. CanBePaired c.args.points.now (map entry_of g)) c.args.stands.now c.loop-begin.begin c.list_end-end.result
    no_stand c.loop-begin-test.true c.list_end-end.ensures.value c.loop-begin.invariant.paired).0

pub loop-begin-smaller : goal.loop-begin-smaller
loop-begin-smaller c =
    omega (
      arith,
      c.list_end-end.ensures.value,
      c.list_end-end.ensures.within,
      group_long c.args.stands.now c.loop-begin.begin no_stand c.loop-begin-test.true,
    )

pub loop-begin-preserved : goal.loop-begin-preserved
loop-begin-preserved c =
    let ss = c.args.stands.now in
    let points = c.args.points.now in
    let begin = c.loop-begin.begin in
    let end = c.list_end-end.result in
    let slice = pair_segments points (take (end - begin) (drop begin ss)) in
    record {
      below = c.list_end-end.ensures.within;
      value = ap (λ l. l ++ pairs_segments points (drop end ss)) c.in_ok-push_pair.ensures
          ∙ append_assoc (map edge_of c.loop-begin.segments.items) slice (pairs_segments points (drop end ss))
          ∙ ap (λ l. map edge_of c.loop-begin.segments.items ++ l)
          (sym (pair_by_pair points ss begin end no_stand c.loop-begin-test.true c.list_end-end.ensures.value)) ∙ c.loop-begin.invariant.value;
      paired = (group_by_group (λ g. CanBePaired points (map entry_of g)) ss begin end no_stand c.loop-begin-test.true
          c.list_end-end.ensures.value c.loop-begin.invariant.paired).1;
    }
