use Rattle.std.specs.Prelude.{take}
use Rattle.std.proofs.Common.{arith, sym, subst}
use Rattle.std.proofs.lemmas.List.{take_all}
use Rattle.std.proofs.lemmas.List.Elements.{All-more, All-same, All-weaker}
use Rattle.mb_base.specs.declared.point.Box3.{Box3}
use Rattle.box_tree.specs.Coarse.{HasEnds, IsExact, IsWhole}
use Rattle.box_tree.specs.Extents.{IsCovered}
use Rattle.box_tree.specs.Touching.{no_box}
use Rattle.box_tree.proofs.Exact.{box_weaker}
use Rattle.box_tree.proofs.extent.common_quantization.Goals as goal

pub loop-number-preserved : goal.loop-number-preserved
loop-number-preserved g c =
    let boxes = g.B.Boxes.boxes c.args.boxes.now in
    let was = IsCovered c.loop-number.extent in
    let now = IsCovered c.with_box-extent.result in
    let P : Box3 → Type 0 = λ b. HasEnds now b in
    let before = All-weaker (HasEnds was) P (box_weaker was now c.with_box-extent.ensures.others) (take c.loop-number.number boxes) c.loop-number.invariant in
    All-more P boxes c.loop-number.number no_box (omega arith) before (subst P c.box_at.ensures c.with_box-extent.ensures.new)

pub returns-clause-exact : goal.returns-clause-exact
returns-clause-exact g c =
    let boxes = g.B.Boxes.boxes c.args.boxes.now in
    let covered = IsCovered c.loop-number.extent in
    let whole = IsWhole c.quantization.result.shift in
    let all = All-same (HasEnds covered) boxes (take c.loop-number.number boxes) (sym (take_all c.loop-number.number boxes (omega arith))) c.loop-number.invariant in
    λ exact. All-weaker (HasEnds covered) (IsExact c.quantization.result.shift) (box_weaker covered whole (λ z h. c.quantization.ensures.exact z exact h)) boxes all
