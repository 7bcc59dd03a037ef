use Rattle.std.specs.Prelude.{List, length}
use Rattle.std.specs.List.{All}
use Rattle.std.proofs.Common.{arith, ap, sym, subst}
use Rattle.std.proofs.lemmas.List.{length_push}
use Rattle.std.proofs.lemmas.List.Elements.{All-push}
use Rattle.mb_base.specs.declared.point.Box3.{Box3}
use Rattle.box_tree.specs.Touching.{IsBox}
use Rattle.box_tree.proofs.tests.boxes_of_row.Goals as goal

pub loop-place-preserved : goal.loop-place-preserved
loop-place-preserved c =
    let P : List Box3 → Type 0 = λ boxes. All IsBox boxes in
    record {
      few = omega (arith, ap length c.in_ok-push.ensures.items, length_push c.loop-place.boxes.items c.flat.result, c.loop-place.invariant.few);
      boxes = subst P (sym c.in_ok-push.ensures.items) (All-push IsBox c.loop-place.boxes.items c.flat.result c.loop-place.invariant.boxes c.flat.ensures);
    }
