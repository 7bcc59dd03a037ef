use Rattle.std.proofs.Common.{rules, [], length, ◌∙◌, sym}
use Rattle.std.proofs.lemmas.List.{length_push}
use Rattle.std.proofs.lemmas.List.Elements.{All-push}
use Rattle.std.proofs.lemmas.Slice.Zip.{zip_turn, zip_end}
use Rattle.side_terms.specs.Corners.{IsFineCorner}
use Rattle.lean.proofs.Corners.{corners_more, corners_all, corners_long, corners_whole}
use Rattle.lean.proofs.surface.corners_of.Goals as goal

pub loop-point-preserved : goal.loop-point-preserved
loop-point-preserved c =
    let ps = c.args.points.now in
    let us = c.args.ups.now in
    let so_far = c.loop-point.yielded in
    let turn = zip_turn ps us so_far c.into_iter-point-iterator.result c.loop-point.point-iterator c.next.new.self c.next.result (search rules)
    (search rules) c.loop-point.yielded_by (c.in-Some.point, c.in-Some.up) c.in-Some.is c.next.ensures.steps in
    let more = corners_more ps us (length so_far) c.in-Some.point.now c.in-Some.up.now turn.0 turn.1 (turn.2 []) (turn.3 []) in
    let long = length_push so_far (c.in-Some.point, c.in-Some.up) in
    record {
      value = rw (c.in_ok-push.ensures.items, long, c.loop-point.invariant.value, c.corner_of.ensures.value) (sym more);
      fine = rw c.in_ok-push.ensures.items (All-push IsFineCorner c.loop-point.corners.items c.corner_of.result c.loop-point.invariant.fine c.corner_of.ensures.fine);
    }

pub returns-clause-value : goal.returns-clause-value
returns-clause-value c =
    let n = zip_end c.args.points.now c.args.ups.now c.loop-point.yielded c.into_iter-point-iterator.result c.loop-point.point-iterator c.next.new.self
    c.next.result (search rules) (search rules) c.loop-point.yielded_by c.in-None.is c.next.ensures.steps in
    c.loop-point.invariant.value ∙ corners_all c.args.points.now c.args.ups.now (length c.loop-point.yielded) n

pub returns-clause-whole : goal.returns-clause-whole
returns-clause-whole c =
    let n = zip_end c.args.points.now c.args.ups.now c.loop-point.yielded c.into_iter-point-iterator.result c.loop-point.point-iterator c.next.new.self
    c.next.result (search rules) (search rules) c.loop-point.yielded_by c.in-None.is c.next.ensures.steps in
    let whole = c.loop-point.invariant.value ∙ corners_all c.args.points.now c.args.ups.now (length c.loop-point.yielded) n in
    rw whole (corners_whole c.args.points.now c.args.ups.now)

pub returns-clause-length : goal.returns-clause-length
returns-clause-length c =
    let n = zip_end c.args.points.now c.args.ups.now c.loop-point.yielded c.into_iter-point-iterator.result c.loop-point.point-iterator c.next.new.self
    c.next.result (search rules) (search rules) c.loop-point.yielded_by c.in-None.is c.next.ensures.steps in
    let whole = c.loop-point.invariant.value ∙ corners_all c.args.points.now c.args.ups.now (length c.loop-point.yielded) n in
    rw whole (corners_long c.args.points.now c.args.ups.now c.requires)
