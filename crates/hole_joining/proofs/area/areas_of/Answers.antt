use Rattle.std.proofs.Common.{◌≡◌, ◌+◌, ℤ, [], length, get_or, to_z, of_z, arith, ap, ◌∙◌}
use mir.Syntax.{w128}
use Rattle.std.proofs.lemmas.Int.{ints}
use Rattle.std.proofs.lemmas.List.{at_drop_more, get_or_default}
use Rattle.chain_terms.specs.Sums.{total}
use Rattle.face_plane.specs.Planes.{area}
use Rattle.hole_joining.specs.Seen.{plane_at}
use Rattle.hole_joining.proofs.Lists.{length_more, concat_take_le, each_more}
use Rattle.hole_joining.proofs.area.areas_of.Goals as goal

pub overflow_add-sum : goal.overflow_add-sum
overflow_add-sum c =
    let loops = c.args.loops.now in
    let i = c.loop-one.one-index in
    let item = c.vertices.ensures ∙ c.one-item.is ∙ get_or_default loops i c.one-item.result [] c.loop-one-test.true in
    omega (
      arith,
      ints,
      c.loop-one.invariant.small.low,
      c.loop-one.invariant.small.high,
      c.loop_area-area.ensures.small.low,
      c.loop_area-area.ensures.small.high,
      length_more loops i c.loop-one-test.true,
      concat_take_le loops (i + 1),
      ap length item,
      c.requires,
    )

pub loop-one-preserved : goal.loop-one-preserved
loop-one-preserved c =
    let at = plane_at c.args.flat.now in
    let loops = c.args.loops.now in
    let i = c.loop-one.one-index in
    let item = c.vertices.ensures ∙ c.one-item.is ∙ get_or_default loops i c.one-item.result [] c.loop-one-test.true in
    let more = at_drop_more (total (area at)) loops i [] c.loop-one-test.true in
    let small = c.loop-one.invariant.small in
    let added = c.loop_area-area.ensures.small in
    let longer = length_more loops i c.loop-one-test.true in
    let few = concat_take_le loops (i + 1) in
    let here = c.loop_area-area.ensures.value ∙ ap (area at) item in
    let kept : ℤ = to_z w128 (of_z w128 c.loop_area-area.result) in
    let same : kept ≡ area at (get_or loops i []) = omega (arith, ints, here, added.low, added.high, longer, few, ap length item, c.requires) in
    record {
      each = each_more (area at) loops c.loop-one.each.items c.push.new.self.items kept i c.loop-one-test.true same
          c.in_ok-push.ensures.items ∙ c.loop-one.invariant.each;
      value = omega (
        arith,
        ints,
        c.loop-one.invariant.value,
        more,
        here,
        small.low,
        small.high,
        added.low,
        added.high,
        longer,
        few,
        ap length item,
        c.requires,
      );
      small = record {
        low = omega (arith, ints, small.low, small.high, added.low, added.high, longer, few, ap length item, c.requires);
        high = omega (arith, ints, small.low, small.high, added.low, added.high, longer, few, ap length item, c.requires);
      };
    }
