use Rattle.std.proofs.Common.{sym}
use Rattle.inspection_laws.proofs.Commons.{corner_volume}
use Rattle.inspection_laws.proofs.Tests.{yes_corner}
use Rattle.self_cuts.specs.Faces.{corners}
use Rattle.self_cuts.specs.Places.{place}
use Rattle.self_cuts.proofs.beside.height_of.Goals as goal

pub returns-then-has_corner : goal.returns-then-has_corner
returns-then-has_corner c =
    sym (corner_volume (corners c.args.o.now) (place c.args.p.now)
    (yes_corner (corners c.args.o.now) (place c.args.p.now) (sym c.if-has_corner.ensures)))
