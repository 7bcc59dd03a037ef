use Rattle.std.proofs.Common.{◌+◌, drop, arith, ap, sym, ◌∙◌}
use Rattle.std.proofs.lemmas.Int.{ints}
use Rattle.std.proofs.lemmas.List.{at_drop_more, drop_all}
use Rattle.chain_terms.specs.Sums.{total}
use Rattle.face_plane.specs.Planes.{across, wedge}
use Rattle.hole_joining.specs.Seen.{plane_at, flat_vertex}
use Rattle.hole_joining.proofs.Rounds.{round_from}
use Rattle.hole_joining.proofs.area.area_from.Goals as goal

pub overflow_add-sum : goal.overflow_add-sum
overflow_add-sum c =
    let small = c.loop-vertex.invariant.small in
    let edge = c.edge_area-sum.ensures.small in
    omega (arith, ints, small.low, small.high, edge.low, edge.high, c.loop-vertex-test.true)

pub loop-vertex-preserved : goal.loop-vertex-preserved
loop-vertex-preserved c =
    let at = plane_at c.args.flat.now in
    let rest = c.args.rest.now in
    let i = c.loop-vertex.vertex-index in
    let last = c.loop-vertex.last in
    let small = c.loop-vertex.invariant.small in
    let edge = c.edge_area-sum.ensures.small in
    let next = c.vertex-next.ensures in
    let number = ap (λ w. w.vertex) next in
    let seen = c.loop-vertex.invariant.seen in
    let more = at_drop_more (λ r. total (across at) (round_from c.args.first last.vertex r)) rest i 0 c.loop-vertex-test.true in
    let here = c.edge_area-sum.ensures.value ∙ (λ j. wedge (seen j).at (next j).at) in
    let on = ap (λ v. total (across at) (round_from c.args.first v (drop (i + 1) rest))) number in
    record {
      seen = next ∙ ap (flat_vertex at) (sym number);
      value = omega (arith, ints, c.loop-vertex.invariant.value, small.low, small.high, more, here, on, edge.low, edge.high);
      small = record {
        low = omega (arith, ints, small.low, small.high, edge.low, edge.high);
        high = omega (arith, ints, small.low, small.high, edge.low, edge.high);
      };
    }

pub returns-clause-value : goal.returns-clause-value
returns-clause-value c =
    let at = plane_at c.args.flat.now in
    let last = c.loop-vertex.last in
    let small = c.loop-vertex.invariant.small in
    let edge = c.edge_area.ensures.small in
    let seen = c.loop-vertex.invariant.seen in
    let none =
    ap (λ r. total (across at) (round_from c.args.first last.vertex r))
    (drop_all c.loop-vertex.vertex-index c.args.rest.now c.loop-vertex-test.false) in
    let here = c.edge_area.ensures.value ∙ (λ j. wedge (seen j).at (c.vertex-start.ensures j).at) in
    omega (arith, ints, c.loop-vertex.invariant.value, small.low, small.high, none, here, edge.low, edge.high)

pub returns-clause-small : goal.returns-clause-small
returns-clause-small c = record {
  low =
      omega (
        arith,
        ints,
        c.loop-vertex.invariant.small.low,
        c.loop-vertex.invariant.small.high,
        c.edge_area.ensures.small.low,
        c.edge_area.ensures.small.high,
      );
  high =
      omega (
        arith,
        ints,
        c.loop-vertex.invariant.small.low,
        c.loop-vertex.invariant.small.high,
        c.edge_area.ensures.small.low,
        c.edge_area.ensures.small.high,
      );
}
