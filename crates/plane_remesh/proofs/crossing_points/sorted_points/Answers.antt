use Rattle.std.proofs.Common.{[], ◌≡◌, arith, rules, subst, sym}
use Rattle.std.specs.Cmp.Lexicographic.{slice_cmp}
use Rattle.std.specs.List.Sorted.{IsPermutation, IsSorted}
use Rattle.std.specs.Ordering.{int_cmp}
use Rattle.std.proofs.lemmas.List.Elements.{All-nil}
use Rattle.mesh_terms.specs.Points.{IsPoint}
use Rattle.plane_remesh.proofs.PointOrder.{grid_more, points_more, sorted_are}
use Rattle.plane_remesh.proofs.crossing_points.sorted_points.Goals as goal

pub loop-at-init : goal.loop-at-init
loop-at-init c = let none : c.in_ok-points.points.items ≡ [] = search rules in record { points = none; grid = All-nil IsPoint }

pub loop-at-preserved : goal.loop-at-preserved
loop-at-preserved c =
    let items = c.deref-at-items.result.now in
    let i = c.loop-at.at-index in
    record {
      points = points_more items c.loop-at.points.items c.push.new.self.items i c.in-Some.point (omega (arith, c.loop-at-test.true)) c.in-Some.ensures.0 c.loop-at.invariant.points
          c.in_ok-push-in-Some.ensures.items;
      grid = grid_more items i (omega (arith, c.loop-at-test.true)) c.in-Some.ensures.1 c.loop-at.invariant.grid;
    }

pub returns : goal.returns
returns c =
    let sorted = c.sort_unstable.new.self.items in
    sorted_are c.args.found.items c.deref-at-items.result.now c.loop-at.points.items c.loop-at.at-index (omega (arith, c.loop-at-test.false)) c.loop-at.invariant.points
    c.loop-at.invariant.grid (subst (IsPermutation c.args.found.items) (sym c.deref-at-items.ensures.value) c.sort_unstable.ensures.permutation)
    (subst (IsSorted (slice_cmp int_cmp)) (sym c.deref-at-items.ensures.value) c.sort_unstable.ensures.sorted)
