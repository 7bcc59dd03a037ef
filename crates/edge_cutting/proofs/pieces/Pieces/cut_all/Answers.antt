use Rattle.std.proofs.Common.{[], get_or, length, map, subst, take}
use Rattle.std.proofs.lemmas.List.{get_or_default}
use Rattle.edge_cutting.specs.Edges.{pair_of}
use Rattle.edge_cutting.specs.Pieces.{AreGathered}
use Rattle.edge_cutting.proofs.Pieced.{pairs_more, up_at}
use Rattle.edge_cutting.proofs.pieces.Pieces.cut_all.Goals as goal

pub cut-requires-clause-up : goal.cut-requires-clause-up
cut-requires-clause-up c =
    let long = c.args.long.now in
    let i = c.loop-edge.edge-index in
    up_at (length c.args.points.now) long i (get_or long i []) c.requires.up c.loop-edge-test.true (get_or_default long i [] (get_or long i []) c.loop-edge-test.true)

pub loop-edge-preserved : goal.loop-edge-preserved
loop-edge-preserved c =
    let long = c.args.long.now in
    let i = c.loop-edge.edge-index in
    subst (λ l. AreGathered c.args.points.now l c.cut.new.self)
    (pairs_more long i (get_or long i []) c.loop-edge-test.true (get_or_default long i [] (get_or long i []) c.loop-edge-test.true))
    (c.in_ok-cut.ensures (map pair_of (take i long)) c.loop-edge.invariant)
