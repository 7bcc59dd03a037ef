use Rattle.std.proofs.Common.{◌≡◌, ◌<◌, ◌∙◌, [], ap, arith, get_or, length, map, of_z, pos, rules, subst, sym, to_z, w32}
use Rattle.std.specs.Int.{int_max}
use Rattle.std.proofs.lemmas.List.{get_or-map, get_or_read, length-map}
use Rattle.std.proofs.lemmas.List.Sums.{fold_more}
use Rattle.mesh_terms.specs.Points.{IsOnGrid, coordinate_of}
use Rattle.self_cuts.proofs.Spans.{max_on}
use Rattle.self_cuts.proofs.span.greatest_on.Goals as goal

pub loop-point-preserved : goal.loop-point-preserved
loop-point-preserved c =
    let points = c.args.points.now in
    let axis = c.args.axis in
    let i = c.loop-point.point-index in
    let z = to_z w32 c.loop-point.greatest-bits in
    let xs = map (λ p. coordinate_of p axis) points in
    let low : i < length xs = omega (arith, c.loop-point-test.true, length-map points (λ p. coordinate_of p axis)) in
    let back : to_z w32 (of_z w32 c.max-greatest.result) ≡ c.max-greatest.result = search rules in
    let read : to_z w32 (of_z w32 c.coordinate.result) ≡ c.coordinate.result = search rules in
    let same : to_z w32 (of_z w32 c.max-greatest.result) ≡ int_max z c.coordinate.result =
    back ∙ c.max-greatest.ensures.value ∙ ap (λ y. int_max z y) read in
    let here : c.coordinate.result ≡ get_or xs i (pos 0) =
    c.coordinate.ensures.value ∙ ap (λ p. coordinate_of p axis) (get_or_read points i c.point-item.result c.loop-point-test.true c.point-item.is [])
    ∙ sym (get_or-map (λ p. coordinate_of p axis) points i [] (pos 0) c.loop-point-test.true) in
    record {
      value = same ∙ (λ j. int_max (c.loop-point.invariant.value j) (here j)) ∙ sym (fold_more int_max (get_or xs 0 (pos 0)) xs i (pos 0) low);
      on_grid = subst IsOnGrid (sym same) (max_on z c.coordinate.result c.loop-point.invariant.on_grid c.coordinate.ensures.on_grid);
    }
