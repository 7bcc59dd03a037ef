use Rattle.std.proofs.Common.{rules}
use Rattle.shadow_kernels.specs.Spots.{Between, flag, spot_between}
use Rattle.shadow_kernels.proofs.Decisions.{same_beats}
use Rattle.shadow_kernels.proofs.Values.{spot_value, kept_weight, same_mark}
use Rattle.shadow_kernels.proofs.tally.Tally.is_above.Goals as goal

pub returns : goal.returns
unfolding spot_between
returns g c =
    let w : Between = g.K.Rounding.between_of c.args.rounding.now in
    let a = c.gap_in_y-a.ensures in
    let b = c.gap_in_y-b.ensures in
    same_beats c.exceeds.ensures (spot_value w c.between-pz.ensures c.requires.below.pz c.requires.above.pz a b (search rules))
    (spot_value w c.between-qz.ensures c.requires.below.qz c.requires.above.qz a b (search rules))
    (same_mark (flag c.args.self.now.below.up 2) (flag c.args.self.now.above.up 2) c.mark_between.ensures (kept_weight a.weight a.value) (kept_weight b.weight b.value))
