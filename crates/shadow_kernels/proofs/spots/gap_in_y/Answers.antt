use Rattle.std.proofs.Common.{sym, subst}
use Rattle.side_terms.specs.Fine.{IsWeight}
use Rattle.shadow_kernels.specs.Lifted.{gap_weight}
use Rattle.shadow_kernels.proofs.Values.{kept_gap}
use Rattle.shadow_kernels.proofs.spots.gap_in_y.Goals as goal

pub returns : goal.returns
returns c =
    let s = c.args.spot.now in
    let value = kept_gap c.gap_of.ensures.value c.requires.py c.requires.qy in
    record { value = value; weight = subst IsWeight (sym value) (gap_weight s.py s.qy c.requires.py c.requires.qy) }
