use Rattle.std.proofs.Common.{◌∙◌, ap, arith, subst, sym}
use Rattle.std.specs.Cmp.Lexicographic.{pointwise}
use Rattle.std.specs.List.{All, list_any, position_or_len}
use Rattle.std.specs.Ordering.{int_eq}
use Rattle.std.proofs.Common.{not}
use Rattle.std.proofs.lemmas.List.{length-take, take_all}
use Rattle.std.proofs.lemmas.List.Elements.{All-more}
use Rattle.indexmap.specs.IndexSet.{insert_key}
use Rattle.mesh_terms.specs.Points.{IsPoint}
use Rattle.sheet_terms.specs.Places.{firsts}
use Rattle.edge_cutting.specs.Inside.{AreApart}
use Rattle.edge_cutting.proofs.Numbered.{numbers}
use Rattle.edge_cutting.proofs.Welded.{firsts_more, keys_more, likeness, number_few, numbers_are, of_more, places_apart, points_are}
use Rattle.edge_cutting.proofs.places.places_of.Goals as goal

pub overflow_cast-place : goal.overflow_cast-place
overflow_cast-place c =
    let points = c.args.points.now in
    let i = c.loop-point.point-index in
    let few = number_few points c.loop-point.seen.keys i c.in_ok-place.place c.at.result c.loop-point.invariant.keys c.in_ok-place.ensures.index in
    record { fits = omega (arith, few, length-take i points, c.requires) }

pub loop-point-preserved : goal.loop-point-preserved
loop-point-preserved c =
    let points = c.args.points.now in
    let i = c.loop-point.point-index in
    let keys = c.loop-point.seen.keys in
    let p = c.point-item.result in
    let low = c.loop-point-test.true in
    let inv = c.loop-point.invariant in
    let value = c.at.ensures.value in
    record {
      keys = keys_more points keys c.insert_full.new.self.keys i p low c.point-item.is inv.keys
          (c.in_ok-place.ensures.keys ∙ ap (λ x. insert_key (pointwise int_eq) keys x) value);
      firsts = firsts_more points keys c.loop-point.firsts.items c.push_new.new.firsts.items i p c.in_ok-place.is_new low c.point-item.is inv.keys inv.firsts
          (c.in_ok-place.ensures.added ∙ ap (λ x. not (list_any (pointwise int_eq x) keys)) value) c.in_ok-push_new.ensures;
      of = c.in_ok-push.ensures.items ∙ of_more points keys c.loop-point.of.items i c.in_ok-place.place p low c.point-item.is inv.keys inv.of
          (c.in_ok-place.ensures.index ∙ ap (λ x. position_or_len (pointwise int_eq x) keys) value);
      grid = All-more IsPoint points i p low inv.grid (subst IsPoint c.point-item.is c.at.ensures.on_grid);
    }

pub returns-clause-points : goal.returns-clause-points
returns-clause-points c =
    let points = c.args.points.now in
    let all = take_all c.loop-point.point-index points c.loop-point-test.false in
    let grid : All IsPoint points = subst (λ l. All IsPoint l) all c.loop-point.invariant.grid in
    c.loop-point.invariant.firsts ∙ ap (firsts (pointwise int_eq)) all ∙ points_are points grid

pub returns-clause-of : goal.returns-clause-of
returns-clause-of c =
    let points = c.args.points.now in
    let all = take_all c.loop-point.point-index points c.loop-point-test.false in
    let grid : All IsPoint points = subst (λ l. All IsPoint l) all c.loop-point.invariant.grid in
    c.loop-point.invariant.of ∙ ap (numbers (pointwise int_eq) likeness) all ∙ numbers_are points grid

pub returns-clause-apart : goal.returns-clause-apart
returns-clause-apart c =
    let points = c.args.points.now in
    let all = take_all c.loop-point.point-index points c.loop-point-test.false in
    let grid : All IsPoint points = subst (λ l. All IsPoint l) all c.loop-point.invariant.grid in
    subst AreApart (sym (c.loop-point.invariant.firsts ∙ ap (firsts (pointwise int_eq)) all ∙ points_are points grid)) (places_apart points)
