use Rattle.std.proofs.Common.{rules}
use Rattle.shadow_kernels.specs.Spots.{Between, spot_between}
use Rattle.shadow_kernels.proofs.Values.{spot_value, kept_weight, same_marks, same_spot}
use Rattle.shadow_kernels.proofs.spots.spot_between_spots.Goals as goal

pub returns : goal.returns
unfolding spot_between
returns g c =
    let w : Between = g.R.Rounding.between_of c.args.rounding.now in
    let d = c.requires.below_fine in
    let u = c.requires.above_fine in
    let a = c.gap_in_y-a.ensures in
    let b = c.gap_in_y-b.ensures in
    same_spot (spot_value w c.between.ensures d.x u.x a b (search rules)) (spot_value w c.between-2.ensures d.py u.py a b (search rules))
    (spot_value w c.between-3.ensures d.qy u.qy a b (search rules))
    (spot_value w c.between-4.ensures d.pz u.pz a b (search rules)) (spot_value w c.between-5.ensures d.qz u.qz a b (search rules))
    (same_marks c.args.below.now.up c.args.above.now.up c.marks_between.ensures (kept_weight a.weight a.value) (kept_weight b.weight b.value))
