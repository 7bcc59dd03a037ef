use Rattle.std.proofs.Common.{[], arith, rules}
use Rattle.std.specs.Int.{int_min}
use Rattle.mb_base.proofs.AxisFolds.{axis_fold_more}
use Rattle.mb_base.proofs.boxes.least_on.Goals as goal

pub loop-corner-preserved : goal.loop-corner-preserved
loop-corner-preserved c =
    axis_fold_more int_min c.args.axis c.args.corners.now c.loop-corner.corner-index (record { at = []; up = [] }) _ c.min-least.result
    (omega arith) (search rules) (search rules) c.min-least.ensures.value c.loop-corner.invariant
