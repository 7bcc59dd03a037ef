use Rattle.std.proofs.Common.{arith, ap, ◌∙◌}
use Rattle.std.proofs.lemmas.Int.{ints}
use Rattle.std.proofs.lemmas.List.{at_drop_more, drop_all}
use Rattle.chain_terms.specs.Sums.{total}
use Rattle.face_plane.specs.Planes.{across, wedge}
use Rattle.plane_filling.specs.Begun.{seen_in}
use Rattle.plane_filling.specs.Rounds.{round_from}
use Rattle.plane_filling.proofs.area.area_from.Goals as goal

pub overflow_add-sum : goal.overflow_add-sum
overflow_add-sum c =
    let small = c.loop-place.invariant.small in
    let edge = c.edge_area-sum.ensures.small in
    omega (arith, ints, small.low, small.high, edge.low, edge.high, c.loop-place-test.true)

pub loop-place-preserved : goal.loop-place-preserved
loop-place-preserved c =
    let at = seen_in c.args.flat.now in
    let rest = c.args.rest.now in
    let i = c.loop-place.place-index in
    let small = c.loop-place.invariant.small in
    let edge = c.edge_area-sum.ensures.small in
    let more = at_drop_more (λ r. total (across at) (round_from c.args.first c.loop-place.last r)) rest i 0 c.loop-place-test.true in
    let here = c.edge_area-sum.ensures.value ∙ (λ j. wedge (c.at.ensures j) (c.at-in-loop-place.ensures j)) in
    record {
      value = omega (arith, ints, c.loop-place.invariant.value, small.low, small.high, more, here, edge.low, edge.high);
      small = record {
        low = omega (arith, ints, small.low, small.high, edge.low, edge.high);
        high = omega (arith, ints, small.low, small.high, edge.low, edge.high);
      };
    }

pub returns : goal.returns
returns c =
    let at = seen_in c.args.flat.now in
    let small = c.loop-place.invariant.small in
    let edge = c.edge_area.ensures.small in
    let none =
    ap (λ r. total (across at) (round_from c.args.first c.loop-place.last r)) (drop_all c.loop-place.place-index c.args.rest.now c.loop-place-test.false) in
    let here = c.edge_area.ensures.value ∙ (λ j. wedge (c.at-2.ensures j) (c.at-3.ensures j)) in
    omega (arith, ints, c.loop-place.invariant.value, small.low, small.high, none, here, edge.low, edge.high)
