use Rattle.std.proofs.Common.{[], get_or, ap, ◌∙◌}
use Rattle.std.specs.Prelude.{not}
use Rattle.hole_joining.specs.Seen.{plane_at}
use Rattle.hole_joining.proofs.Areas.{no_ring}
use Rattle.hole_joining.proofs.area.is_hole.Goals as goal

pub returns : goal.returns
returns c = ap not c.is_ring.ensures ∙ no_ring (plane_at c.args.flat.now) (get_or c.args.loops.now c.args.i [])
