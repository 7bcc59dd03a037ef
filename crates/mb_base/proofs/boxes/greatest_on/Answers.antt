use Rattle.std.proofs.Common.{[], arith, rules}
use Rattle.std.specs.Int.{int_max}
use Rattle.mb_base.proofs.AxisFolds.{axis_fold_more}
use Rattle.mb_base.proofs.boxes.greatest_on.Goals as goal

pub loop-corner-preserved : goal.loop-corner-preserved
loop-corner-preserved c =
    axis_fold_more int_max c.args.axis c.args.corners.now c.loop-corner.corner-index (record { at = []; up = [] }) _ c.max-greatest.result
    (omega arith) (search rules) (search rules) c.max-greatest.ensures.value c.loop-corner.invariant
