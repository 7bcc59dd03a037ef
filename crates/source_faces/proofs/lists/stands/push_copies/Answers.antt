use Rattle.std.proofs.Common.{◌++◌, ap, ◌∙◌}
use Rattle.source_faces.proofs.Growing.{copies_more, grown}
use Rattle.source_faces.proofs.lists.stands.push_copies.Goals as goal

pub loop-i-preserved : goal.loop-i-preserved
loop-i-preserved c =
    let crossing = c.args.crossing in
    let more =
    copies_more c.args.bases.edges c.args.bases.faces crossing.lower crossing.upper crossing.face crossing.positive c.args.first c.loop-i.i in
    let six = c.six_stands.ensures in
    grown _ _ _ _ _ _ (c.in_ok-extend_from_slice.ensures.items ∙ ap (λ l. c.loop-i.stands.items ++ l) six) c.loop-i.invariant more
