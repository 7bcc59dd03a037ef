use Rattle.std.proofs.Common.{◌≡◌, ap, ◌∙◌}
use Rattle.side_terms.specs.Corners.{corner_at}
use Rattle.shadow_kernels.specs.Counts.{count_of}
use Rattle.shadow_kernels.specs.Rules.{grid}
use Rattle.shadow_kernels.specs.RuleLaws.{lift02}
use Rattle.shadow_kernels.specs.Shadows.{meet02}
use Rattle.shadow_kernels.proofs.grid.GridMeets13.meet.Goals as goal

pub returns : goal.returns
unfolding meet02
returns g c =
    let value : c.face_meet.result ≡ meet02 grid (g.R.Rounding.between_of c.args.self.now.rounding) (corner_at c.args.p.now 0) (corner_at c.args.q.now 0)
    (corner_at c.args.q.now 1) (corner_at c.args.q.now 2) = c.face_meet.ensures in
    record { value = value; lift = ap count_of value ∙ lift02 grid _ (corner_at c.args.p.now 0) (corner_at c.args.q.now 0) (corner_at c.args.q.now 1) (corner_at c.args.q.now 2) }
