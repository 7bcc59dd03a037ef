use Rattle.std.proofs.Common.{subst, sym}
use Rattle.std.specs.List.{All}
use Rattle.std.proofs.lemmas.List.Elements.{All-push}
use Rattle.box_tree.specs.Touching.{IsBox}
use Rattle.plane_sheets.specs.Seen.{seen_in}
use Rattle.plane_sheets.proofs.Shadows.{shadow_pushed}
use Rattle.plane_sheets.proofs.passing.shadows.Goals as goal

pub loop-from-preserved : goal.loop-from-preserved
loop-from-preserved c = record {
  value =
      shadow_pushed (seen_in c.args.flat) c.args.edges.now c.loop-from.from-index c.loop-from.boxes.items c.push.new.self.items c.shadow.result c.at.result
      c.at-in-loop-from.result
      c.loop-from-test.true c.in_ok-push.ensures.items c.loop-from.invariant.value c.shadow.ensures.value c.at.ensures c.at-in-loop-from.ensures;
  boxes = subst (All IsBox) (sym c.in_ok-push.ensures.items) (All-push IsBox c.loop-from.boxes.items c.shadow.result c.loop-from.invariant.boxes c.shadow.ensures.is_box);
}
