use Rattle.std.proofs.Common.{map}
use Rattle.std.proofs.lemmas.Slice.Eq.{slice_eq-Decides}
use Rattle.edge_pairing.specs.Entries.{edge_of}
use Rattle.mesh_boolean.proofs.SortedSegments.{AreJoined, pair_decides, same_boundary, same_sorted}
use Rattle.mesh_boolean.proofs.boundary.have_one_boundary.Goals as goal

pub returns : goal.returns
returns c =
    let es = map edge_of c.args.ones.now in
    let ms = map edge_of c.args.others.now in
    let there = c.in_ok-there.there.items in
    let back = c.in_ok-back.back.items in
    let joined : AreJoined es ms there back = record {
      there_moved = c.in_ok-there.ensures.moved;
      there_sorted = c.in_ok-there.ensures.sorted;
      back_moved = c.in_ok-back.ensures.moved;
      back_sorted = c.in_ok-back.ensures.sorted;
    } in
    let equal = slice_eq-Decides pair_decides there back c.eq.result c.eq.ensures in
    ((λ e. same_boundary es ms there back joined (equal.0 e)), (λ one. equal.1 (same_sorted es ms there back joined one)))
