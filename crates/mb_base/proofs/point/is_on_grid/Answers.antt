use Rattle.std.proofs.Common.{rules}
use Rattle.mb_base.proofs.point.is_on_grid.Goals as goal

pub returns : goal.returns
returns c = search rules
